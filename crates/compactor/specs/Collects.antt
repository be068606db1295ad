-- What a collection answers, and leaves in every lent buffer.
use Rattle.std.specs.Prelude.{ℕ, ◌≡◌, List, Result}
use Rattle.meaning.specs.Answers.{Answer}
use Rattle.meaning.specs.Collect.{Totals as PaperTotals, After}
use Rattle.refusals.specs.Paper.{answer_of}
use Rattle.refusals.specs.declared.Refusal.{Refusal}
use Rattle.compactor.specs.declared.Totals.{Totals}

abbrev pub totals_of : Totals → PaperTotals
totals_of t = record { top = t.top; objects = t.objects; blocks = t.blocks }

-- the answer on paper
abbrev pub collected_totals : Result Totals Refusal → Answer PaperTotals
collected_totals = answer_of totals_of

-- answer and buffers are those of a collection
pub record Collects (c : After) (r : Result Totals Refusal) (heap roots marks live offsets : List ℕ) : Type 0 where
  pub answer_is : collected_totals r ≡ c.answer
  pub heap_is : heap ≡ c.heap
  pub roots_are : roots ≡ c.roots
  pub marks_are : marks ≡ c.marks
  pub live_is : live ≡ c.live
  pub offsets_are : offsets ≡ c.offsets

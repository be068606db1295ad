-- What the checks 2 to 5 answer, and the bitmaps that they hand on.
use Rattle.std.specs.Prelude.{ℕ, ⊤, ◌*◌, ◌≡◌, Bool, ◌&&◌, List, length, get_or, Result, Ok, Err}
use Rattle.meaning.specs.Limits.{block_words, table_entries}
use Rattle.meaning.specs.Answers.{Answer, gives, refused}
use Rattle.meaning.specs.Values.{is_ref}
use Rattle.meaning.specs.Places.{below, marked}
use Rattle.meaning.specs.Objects.{Object, parse}
use Rattle.meaning.specs.Slide.{header_at, live_at, field_at}
use Rattle.meaning.specs.Collect.{Counts as PaperCounts, judged}
use Rattle.refusals.specs.Paper.{number_of, place_of, answer_of}
use Rattle.refusals.specs.declared.Refusal.{Refusal}
use Rattle.walk.specs.declared.Survey.{Survey}
use Rattle.objects.specs.declared.Counts.{Counts}

-- the headers, the words of marked objects, and the references in marked records
pub record Surveyed (heap : List ℕ) (m : ℕ → Bool) (os : List Object) (headers words refs : List ℕ) : Type 0 where
  pub is_header : (q : ℕ) → marked headers q ≡ header_at os q
  pub is_live : (q : ℕ) → marked words q ≡ live_at m os q
  pub holds_ref : (q : ℕ) → marked refs q ≡ field_at m os q && is_ref (get_or heap q 0)

-- refusals 2 to 5, or the objects and their bitmaps
abbrev pub Examined : List ℕ → ℕ → List ℕ → List ℕ → Survey → Result ⊤ Refusal → Type 0
Examined heap top roots marks s (Err e) = judged heap top roots marks (parse heap top) ≡ refused (number_of e) (place_of e)
Examined heap top roots marks s (Ok u) =
    (os : List Object) × (judged heap top roots marks (parse heap top) ≡ gives os) × Surveyed heap (marked marks) os s.headers s.words s.fields

abbrev pub counts_of : Counts → PaperCounts
counts_of c = record { live = c.live; objects = c.objects }

-- the check's answer on paper
abbrev pub checked_counts : Result Counts Refusal → Answer PaperCounts
checked_counts = answer_of counts_of

-- all bits of the live words and of the marks
abbrev pub bits_counted : List ℕ → List ℕ → PaperCounts
bits_counted words marks = record { live = below (marked words) (block_words * table_entries); objects = below (marked marks) (block_words * length marks) }

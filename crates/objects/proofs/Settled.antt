-- The promise of the check settles its answer. Assumes nothing.
use mathlib.Core.Path.{◌≡◌, refl, sym, ◌∙◌}
use mathlib.Core.List.{List}
use Prim.Native.Nat.{ℕ}
use contract.Lifetimes.{Lfts}
use denote.Ref.{Bor}
use Rattle.meaning.specs.Collect.{Counts as PaperCounts}
use Rattle.objects.specs.Examined.{counts_of, checked_counts}
use Rattle.std.proofs.Common.{Result}
use Rattle.refusals.specs.declared.Refusal.{Refusal}
use Rattle.refusals.proofs.OneToOne.{answer_one}
use Rattle.objects.specs.declared.Counts.{Counts}
use Rattle.objects.proofs.check.Reads as check

abbrev counts_at : PaperCounts → Counts
counts_at c = record { live = c.live; objects = c.objects }

-- one to one
pub checked_counts_one : (r s : Result Counts Refusal) → checked_counts r ≡ checked_counts s → r ≡ s
checked_counts_one = answer_one counts_of counts_at (λ c. refl)

module _ (κs : Lfts 3) (heap : Bor (List ℕ)) (top : ℕ) (roots marks : Bor (List ℕ)) where
  abbrev pub Check : Result Counts Refusal → Type 0
  Check r = check.Post κs (heap, (top, (roots, (marks, tt)))) r (heap, (top, (roots, (marks, tt))))

  pub check_settled : (r s : Result Counts Refusal) → Check r → Check s → r ≡ s
  check_settled r s e f = checked_counts_one r s (e ∙ sym f)

-- The promise of the judge settles its answer. Assumes nothing.
use mathlib.Core.Path.{◌≡◌, refl, sym, ◌∙◌}
use mathlib.Core.List.{List}
use Prim.Native.Nat.{ℕ}
use contract.Lifetimes.{Lfts}
use denote.Ref.{Bor}
use Rattle.std.proofs.Common.{Result}
use Rattle.meaning.specs.Image.{Contents as Table}
use Rattle.refusals.specs.declared.Refusal.{Refusal}
use Rattle.refusals.proofs.OneToOne.{answer_one}
use Rattle.image.specs.Judging.{table_of}
use Rattle.image.specs.declared.Contents.{Contents}
use Rattle.image.proofs.judge.Reads as judge

-- contents from those on paper
abbrev contents_at : Table → Contents
contents_at t = record {
  kind = t.kind;
  top = t.top;
  heap = record { start = t.heap; length = t.words };
  roots = record { start = t.roots; length = t.slots };
  marks = record { start = t.marks; length = t.halves };
  order = record { start = t.order; length = t.steps };
}

-- two answers are equal
module _ (κs : Lfts 1) (bytes : Bor (List ℕ)) where
  abbrev pub Judge : Result Contents Refusal → Type 0
  Judge r = judge.Post κs (bytes, tt) r (bytes, tt)

  pub judge_settled : (r s : Result Contents Refusal) → Judge r → Judge s → r ≡ s
  judge_settled r s e f = answer_one table_of contents_at (λ t. refl) r s (e ∙ sym f)

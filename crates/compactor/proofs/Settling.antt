-- Tables filled from a bitmap settle the order: the judge by entries judges as meaning does. Assumes nothing.
use mathlib.Core.Path.{◌≡◌, refl, sym, ap, ◌∙◌}
use mathlib.Core.Bool.{true}
use mathlib.Core.List.{List, [], ◌∷◌}
use Prim.Native.Nat.{ℕ, ◌*◌, ◌≤◌, ◌<◌}
use native.Mathlib.Omega.{arith}
use lib.ListN.{length, get_or}
use Rattle.meaning.specs.Limits.{block_words, table_entries}
use Rattle.meaning.specs.Places.{places_from, below, marked}
use Rattle.meaning.specs.Blocks.{order_breaks}
use Rattle.meaning.proofs.OrderJudged.{judge-refused}
use mathlib.Core.Logic.{⊎_elim}
use Rattle.meaning.proofs.Bitmaps.{length_table, get_or_table}
use Rattle.orders.specs.Entries.{Bounded, entry_breaks}
use Rattle.std.proofs.Common.{Ok, Err, Some, None, slice_get}
use Rattle.refusals.specs.declared.Refusal.TheVariants.{OrderBreaks}
use Rattle.orders.proofs.JudgedByEntries.{entries_bounded, entries-judge}
use Rattle.tables.specs.Filled.{Filled}
use Rattle.compactor.specs.Phases.{Tabled, Settled}

module _ (words : List ℕ) (n : ℕ) (live offsets : List ℕ) (total : ℕ) (few : n ≤ table_entries)
    (inside : (p : ℕ) → marked words p ≡ true → p < block_words * n) (f : Filled words n live offsets total) where
  abbrev entry : ℕ → ℕ
  entry b = below (marked words) (block_words * b)

  long : length offsets ≡ n
  long = ap length f.entries ∙ length_table entry n

  exact : (b : ℕ) → b < length offsets → get_or offsets b 0 ≡ entry b
  exact b h = ap (λ (l : List ℕ). get_or l b 0) f.entries ∙ get_or_table entry n b (omega (arith, long))

  pub settling_bounded : Bounded offsets total
  settling_bounded = entries_bounded (marked words) (block_words * n) inside offsets total (omega (arith, long)) exact f.count (omega arith)

  judged_same : (order : List ℕ) → entry_breaks offsets total order ≡ order_breaks (places_from (marked words) 0 (block_words * n)) order
  judged_same order = entries-judge (marked words) (block_words * n) inside offsets total (omega (arith, long)) exact f.count order

  tabled : Tabled (marked words) n live offsets
  tabled = record { bits = f.bits; entries = f.entries }

  keeps : (found : List ℕ) → None ≡ slice_get found 0 → found ≡ []
  keeps [] e = refl
  keeps (i ∷ rest) e = cc

  breaks : (found : List ℕ) (i : ℕ) → Some i ≡ slice_get found 0 → (rest : List ℕ) × (found ≡ i ∷ rest)
  breaks [] i e = absurd (cc e)
  breaks (k ∷ rest) i e = (rest, cc)

  pub settled_ready : (order : List ℕ) → None ≡ slice_get (entry_breaks offsets total order) 0 → Settled words n order live offsets (Ok total)
  settled_ready order e = record { tabled = tabled; says = (sym (judged_same order) ∙ keeps (entry_breaks offsets total order) e, f.count) }

  pub settled_misordered : (order : List ℕ) (i : ℕ) → Some i ≡ slice_get (entry_breaks offsets total order) 0
      → Settled words n order live offsets (Err (OrderBreaks i))
  settled_misordered order i e =
      let (rest, q) = breaks (entry_breaks offsets total order) i e in
      record { tabled = tabled; says = (i, refl, (rest, sym (judged_same order) ∙ q)) }

  -- an order breaks within it or at its end, so the position is small
  pub position_low : (order : List ℕ) (i : ℕ) → Some i ≡ slice_get (entry_breaks offsets total order) 0 → i ≤ length order
  position_low order i e =
      let (rest, q) = breaks (entry_breaks offsets total order) i e in
      let b = judge-refused _ order i rest (sym (judged_same order) ∙ q) in
      ⊎_elim (λ (low, bad). omega arith) (λ (fine, other, e). omega arith) b.here

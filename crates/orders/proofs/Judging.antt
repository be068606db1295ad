-- The judge goes from position to position, with a table that says which steps are done. Assumes nothing.
use mathlib.Core.Path.{◌≡◌, refl, ◌∙◌}
use mathlib.Core.Logic.{⊎_elim}
use mathlib.Core.Bool.{Bool, true, false, not, ◌||◌, or-true, or-false, or_assoc}
use mathlib.Core.List.{List, [], ◌∷◌, ◌++◌}
use Prim.Native.Nat.{ℕ, ◌+◌, ◌≤◌, ◌<◌}
use native.Mathlib.Nat.{zero-add}
use native.Mathlib.Numerals.{add-one}
use native.Mathlib.Omega.{arith}
use lib.Dec.{ltb, eqb}
use lib.ListN.{length, get_or, take, set, length-set, replicate, length-replicate, get_or-replicate}
use lib.Seq.{take-suc, get_or-set_same, get_or-set_other}
use borrow.Author.Count.{below_more}
use borrow.Author.Tests.{ltb-true, eq-eqb, ne_eqb, not-false}
use Rattle.std.specs.Prelude.{Some, slice_get}
use Rattle.meaning.specs.Limits.{blocks_of, table_entries}
use Rattle.meaning.specs.Places.{is_in}
use Rattle.meaning.proofs.Deciding.{eq_or_ne, or_none}
use Rattle.meaning.proofs.Counting.{places_none, is_lowest}
use Rattle.orders.specs.Entries.{step_breaks, length_breaks, entry_breaks, Bounded, Ticks}

-- ## The table
ticks_none : (order : List ℕ) → Ticks (replicate table_entries false) (take 0 order)
ticks_none order = record {
  long = length-replicate {A = Bool} table_entries false;
  ticked = λ k h. get_or-replicate table_entries k false false h;
}

in_last : (k t : ℕ) (l : List ℕ) → is_in k (l ++ t ∷ []) ≡ is_in k l || eqb k t
in_last k t [] = or-false (eqb k t)
in_last k t (x ∷ l) = rw (in_last k t l, or_assoc)

ticks_more : (table : List Bool) (done : List ℕ) (t : ℕ) → t < table_entries → Ticks table done → Ticks (set table t true) (done ++ t ∷ [])
ticks_more table done t h w = record {
  long = length-set table t true ∙ w.long;
  ticked = λ k l. rw (in_last k t done) (⊎_elim
      (λ (e : k ≡ t). rw (e, eq-eqb t t refl, get_or-set_same table t true false (omega (arith, w.long)), or-true))
      (λ ne. rw (ne_eqb k t ne, get_or-set_other table t k true false ne, or-false) (w.ticked k l))
      (eq_or_ne k t));
}

module _ (offsets : List ℕ) (total : ℕ) (order : List ℕ) where
  abbrev breaks_at : ℕ → Bool
  breaks_at i = step_breaks offsets total (take i order) (get_or order i 0)

  -- no position before i breaks
  pub record Judging (table : List Bool) (i : ℕ) : Type 0 where
    pub within : i ≤ length order
    pub ticks : Ticks table (take i order)
    pub kept : (k : ℕ) → k < i → breaks_at k ≡ false

  pub judging_start : Judging (replicate table_entries false) 0
  judging_start = record { within = omega arith; ticks = ticks_none order; kept = λ k h. absurd (omega arith) }

  module _ (table : List Bool) (i : ℕ) (w : Judging table i) where
    -- a step that does not break is one of the table
    pub judging-step : Bounded offsets total → breaks_at i ≡ false → get_or order i 0 < table_entries
    judging-step b e =
        let t = get_or order i 0 in
        let low : not (ltb t (blocks_of total)) ≡ false = (or_none (not (ltb t (blocks_of total))) _ e).0 in
        omega (arith, b.few, ltb-true t (blocks_of total) (not-false _ low))

    pub judging-next : Bounded offsets total → i < length order → breaks_at i ≡ false → Judging (set table (get_or order i 0) true) (i + 1)
    judging-next b h e = record {
      within = omega arith;
      ticks = rw (add-one i, take-suc order i 0 h) (ticks_more table (take i order) (get_or order i 0) (judging-step b e) w.ticks);
      kept = below_more _ i w.kept e;
    }

    pub judging-stop : i < length order → breaks_at i ≡ true → Some i ≡ slice_get (entry_breaks offsets total order) 0
    unfolding entry_breaks
    judging-stop h e =
        let (rest, q) = is_lowest breaks_at (length order) i (record { within = h; passes = e; before = w.kept }) in
        rw q

    pub judging-end : (blocks : ℕ) → blocks ≡ blocks_of total → length order ≤ i
        → slice_get (length_breaks (length order) blocks) 0 ≡ slice_get (entry_breaks offsets total order) 0
    unfolding entry_breaks
    judging-end blocks e h = rw (places_none breaks_at 0 (length order) (λ k l. rw zero-add (w.kept k (omega arith))), e)

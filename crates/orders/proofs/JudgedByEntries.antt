-- Where each entry is the number of live places below its block, the entries judge an order as the live places do. Assumes nothing.
use mathlib.Core.Path.{◌≡◌, sym, ap, ap₂, ◌∙◌}
use mathlib.Core.Logic.{⊎_elim}
use mathlib.Core.Bool.{Bool, true, false}
use mathlib.Core.List.{List, ◌++◌}
use Prim.Native.Nat.{ℕ, ◌+◌, ◌*◌, ◌≤◌, ◌<◌}
use native.Mathlib.Omega.{arith}
use lib.ListN.{length, get_or, take, get_or-eq_default}
use Rattle.std.proofs.lemmas.List.{get_or_default}
use Rattle.meaning.specs.Limits.{heap_words, block_words, blocks_of}
use Rattle.meaning.specs.Places.{places_from, below}
use Rattle.meaning.specs.Blocks.{breaks, order_breaks}
use Rattle.meaning.proofs.Deciding.{le_or_lt, true_or_false}
use Rattle.meaning.proofs.Counting.{places_same, below-few, below_flat}
use Rattle.meaning.proofs.TwoTargets.{offset_entry, early-two}
use Rattle.orders.specs.Entries.{entry_at, step_breaks, length_breaks, entry_breaks, Bounded}

-- the live places pass test t, and all are below n
module _ (t : ℕ → Bool) (n : ℕ) (top : (p : ℕ) → t p ≡ true → p < n) (offsets : List ℕ) (total : ℕ) (long : n ≤ block_words * length offsets)
    (exact : (b : ℕ) → b < length offsets → get_or offsets b 0 ≡ offset_entry t b) (all : total ≡ below t n) where
  none_past : (p : ℕ) → n ≤ p → t p ≡ false
  none_past p h = ⊎_elim (λ passes. absurd (omega (arith, top p passes))) (λ fails. fails) (true_or_false (t p))

  entry_is : (b : ℕ) → entry_at offsets total b ≡ offset_entry t b
  entry_is b =
      ⊎_elim
      (λ (h : length offsets ≤ b).
      get_or-eq_default offsets total h ∙ all ∙ sym (below_flat t n (block_words * b) (omega arith) (λ r g l. none_past r g)))
      (λ (h : b < length offsets). get_or_default offsets b total 0 h ∙ exact b h)
      (le_or_lt (length offsets) b)

  pub entries_bounded : n ≤ heap_words → Bounded offsets total
  entries_bounded h = record {
    few = omega (arith, below-few t n);
    low = λ b. ⊎_elim
        (λ (g : block_words * b ≤ n). omega (arith, entry_is b, below-few t (block_words * b)))
        (λ (g : n < block_words * b). omega (arith, entry_is b, below_flat t n (block_words * b) (omega arith) (λ r i l. none_past r i), below-few t n))
        (le_or_lt (block_words * b) n);
  }

  pub entries-judge : (order : List ℕ) → entry_breaks offsets total order ≡ order_breaks (places_from t 0 n) order
  unfolding entry_breaks order_breaks below
  entries-judge order =
      let places = places_from t 0 n in
      let one : (done : List ℕ) (b : ℕ) → step_breaks offsets total done b ≡ breaks places done b =
      λ done b. rw (entry_is b, entry_is (b + 1), early-two t n top done b, all) in
      ap₂ (λ (ps end : List ℕ). ps ++ end) (places_same _ _ 0 (length order) (λ i h. one (take (0 + i) order) _)) (ap (λ (l : ℕ). length_breaks (length order) (blocks_of l)) all)

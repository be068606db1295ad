-- A step is not too early just if each live word in its block that goes to another block goes to one that is done. Assumes nothing.
use mathlib.Core.Path.{◌≡◌, refl, ap₂}
use mathlib.Core.Logic.{◌≢◌}
use mathlib.Core.Bool.{Bool, true, false, not, ◌&&◌, ◌||◌}
use mathlib.Core.List.{List, [], ◌∷◌}
use Prim.Native.Nat.{ℕ, zero, suc, ◌+◌, ◌/◌, ◌<◌}
use native.Mathlib.Nat.{add-zero, zero-add, add-suc, suc-add}
use native.Mathlib.Omega.{arith}
use lib.Dec.{eqb}
use lib.ListN.{length, get_or}
use borrow.Author.Tests.{eq-eqb, ne_eqb, eqb-true, eqb-false, not-false}
use Rattle.meaning.specs.Limits.{block_words}
use Rattle.meaning.specs.Places.{is_in}
use Rattle.meaning.specs.Blocks.{early_from}
use Rattle.meaning.proofs.Deciding.{or_none}

module _ (done : List ℕ) (b : ℕ) where
  -- block b's step waits for live word number j, which stands at place p
  abbrev waits : ℕ → ℕ → Bool
  waits j p = eqb (p / block_words) b && (not (eqb (j / block_words) b) && not (is_in (j / block_words) done))

  -- each live word in block b that goes to another block goes to one that is done; the word at the i-th of the places is number f i
  abbrev pub Ready : (ℕ → ℕ) → List ℕ → Type 0
  Ready f ps = (i : ℕ) → i < length ps → get_or ps i 0 / block_words ≡ b → f i / block_words ≢ b → is_in (f i / block_words) done ≡ true

  ready_from : (j : ℕ) (ps : List ℕ) → Ready (λ i. j + i) ps → early_from done b j ps ≡ false
  ready_from j [] a = refl
  ready_from j (p ∷ ps) a =
      ap₂ ◌||◌ (go (eqb (p / block_words) b) refl (eqb (j / block_words) b) refl)
      (ready_from (suc j) ps (λ i h. rw (suc-add, ← add-suc j i) (a (suc i) (omega arith))))
    where
      go : (x : Bool) → eqb (p / block_words) b ≡ x → (y : Bool) → eqb (j / block_words) b ≡ y → (x && (not y && not (is_in (j / block_words) done))) ≡ false
      go false ex y ey = refl
      go true ex true ey = refl
      go true ex false ey = rw (rw add-zero at (a 0 (omega arith) (eqb-true (p / block_words) b ex) (rw add-zero (eqb-false (j / block_words) b ey))))

  from_ready : (j : ℕ) (ps : List ℕ) → early_from done b j ps ≡ false → Ready (λ i. j + i) ps
  from_ready j [] e i h s n = absurd (omega arith)
  from_ready j (p ∷ ps) e zero h s n =
      let w = (or_none (waits j p) (early_from done b (suc j) ps) e).0 in
      rw add-zero (not-false (is_in (j / block_words) done) (rw (eq-eqb (p / block_words) b s, ne_eqb (j / block_words) b (rw add-zero at n)) at w))
  from_ready j (p ∷ ps) e (suc i) h s n =
      let w = (or_none (waits j p) (early_from done b (suc j) ps) e).1 in
      rw (add-suc, ← suc-add j i) (from_ready (suc j) ps w i (omega arith) s (rw (suc-add, ← add-suc j i) n))

  pub ready_not-early : (places : List ℕ) → Ready (λ j. j) places → early_from done b 0 places ≡ false
  ready_not-early places a = ready_from 0 places (λ j h s n. rw zero-add (a j h s (rw zero-add at n)))

  pub not-early_ready : (places : List ℕ) → early_from done b 0 places ≡ false → Ready (λ j. j) places
  not-early_ready places e j h s n = rw zero-add at (from_ready 0 places e j h s (rw zero-add n))

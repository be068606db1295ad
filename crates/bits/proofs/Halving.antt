-- The halving search for set bit number n of a word: `rest` is the word from bit `at` on, and the bit wanted is one of its `width` lowest.
-- Assumes nothing.
use mathlib.Core.Path.{◌≡◌, refl, sym, ap, ◌∙◌}
use mathlib.Core.List.{List, [], ◌∷◌}
use lib.ListN.{get_or}
use Prim.Native.Nat.{ℕ, zero, suc, ◌+◌, ◌-◌, ◌*◌, ◌/◌, ◌%◌, ◌^◌, ◌≤◌, ◌<◌}
use native.Mathlib.Nat.{div-one}
use native.Mathlib.Omega.{arith}
use lib.Pow.{shr-shr}
use borrow.Author.Tests.{eq-eqb}
use Rattle.meaning.specs.Places.{below, src, bit_of, bit_set}
use Rattle.meaning.proofs.Counting.{below-zero, src_at}
use Rattle.bits.proofs.Words.{below_shr, below-low}

-- k is the number of bits of the word
module _ (k word n : ℕ) where
  pub record Halving (rest left at width : ℕ) : Type 0 where
    pub some : left < below (bit_set rest) width
    pub shifted : rest ≡ word / 2 ^ at
    pub passed : n ≡ below (bit_set word) at + left
    pub room : at + width ≤ k
    pub more : 0 < width

  pub halve_start : 0 < k → n < below (bit_set word) k → Halving word n 0 k
  halve_start m h = record { some = h; shifted = sym (div-one word); passed = omega (arith, below-zero (bit_set word)); room = omega arith; more = m }

  -- it is one of the lower half
  pub halve_low : (rest left at width half low : ℕ) → 0 < half → half < width → low ≡ below (bit_set rest) half → left < low → Halving rest left at width
      → Halving rest left at half
  halve_low rest left at width half low p h e l i = record { some = omega arith; shifted = i.shifted; passed = i.passed; room = omega arith; more = p }

  -- or one of the others
  pub halve_high : (rest left at width half low : ℕ) → half < width → low ≡ below (bit_set rest) half → low ≤ left → Halving rest left at width
      → Halving (rest / 2 ^ half) (left - low) (at + half) (width - half)
  halve_high rest left at width half low h q l i =
      let e : below (bit_set rest) width ≡ below (bit_set rest) half + below (bit_set (rest / 2 ^ half)) (width - half) =
      ap (below (bit_set rest)) (let z : width ≡ half + (width - half) = omega arith in z) ∙ below_shr rest half (width - half) in
      let f : below (bit_set word) (at + half) ≡ below (bit_set word) at + below (bit_set rest) half =
      below_shr word at half ∙ ap (λ (x : ℕ). below (bit_set word) at + below (bit_set x) half) (sym i.shifted) in
      record { some = omega arith; shifted = ap (λ (x : ℕ). x / 2 ^ half) i.shifted ∙ shr-shr word at half; passed = omega arith; room = omega arith; more = omega arith }

  pub halve_end : (rest left at width : ℕ) → width ≤ 1 → Halving rest left at width → at ≡ src (bit_set word) k n
  halve_end rest left at width h i =
      let e : below (bit_set rest) width ≡ rest % 2 = ap (below (bit_set rest)) (let z : width ≡ 1 = omega arith in z) ∙ below-low rest in
      let f : rest % 2 ≡ bit_of word at = ap (λ (x : ℕ). x % 2) i.shifted in
      let g : below (bit_set word) at ≡ n = omega arith in
      sym (ap (src (bit_set word) k) (sym g) ∙ src_at (bit_set word) k at (omega arith) (eq-eqb (bit_of word at) 1 (omega arith)))

-- the widths that are halved: half of what the search has come to, which is left after it
abbrev pub halves : List ℕ
halves = 32 ∷ 16 ∷ 8 ∷ 4 ∷ 2 ∷ 1 ∷ []

pub record Half (i half : ℕ) : Type 0 where
  pub more : 0 < half
  pub twice : 2 ^ (6 - i) ≡ 2 * half
  pub next : 2 ^ (6 - (i + 1)) ≡ half

pub half_at : (i : ℕ) → i < 6 → Half i (get_or halves i 0)
half_at zero h = record { more = omega arith; twice = refl; next = refl }
half_at (suc zero) h = record { more = omega arith; twice = refl; next = refl }
half_at (suc (suc zero)) h = record { more = omega arith; twice = refl; next = refl }
half_at (suc (suc (suc zero))) h = record { more = omega arith; twice = refl; next = refl }
half_at (suc (suc (suc (suc zero)))) h = record { more = omega arith; twice = refl; next = refl }
half_at (suc (suc (suc (suc (suc zero))))) h = record { more = omega arith; twice = refl; next = refl }
half_at (suc (suc (suc (suc (suc (suc i)))))) h = absurd (omega arith)

-- Set bits in a row: how many there are from a bit on, and what is left of a word past them. Assumes nothing.
use mathlib.Core.Path.{◌≡◌, sym, ap, ◌∙◌, subst}
use mathlib.Core.Logic.{⊎_elim}
use mathlib.Core.Bool.{Bool, true, false, not, ◌&&◌, and-true, and-false}
use Prim.Native.Nat.{ℕ, zero, suc, ◌+◌, ◌-◌, ◌*◌, ◌/◌, ◌%◌, ◌^◌, ◌≤◌, ◌<◌, min}
use native.Mathlib.Nat.{mod-lt}
use native.Mathlib.Omega.{arith}
use lib.Count.{count_trailing_zeros, trailing_of_zero, trailing_le}
use lib.Dec.{leb}
use lib.Pow.{pow_pos, shr_le, shr_lt, shl_exact}
use borrow.Author.Tests.{le-leb, lt-leb, not-true, not-false}
use Rattle.meaning.specs.Places.{below, bit_set}
use Rattle.meaning.proofs.Deciding.{le_or_lt, eq_or_ne, clash}
use Rattle.meaning.proofs.Counting.{below_next}
use Rattle.meaning.proofs.Bitmaps.{bit_zero}
use Rattle.bits.proofs.Words.{bit_first, bit_up, bit_shr, bit_not, shl_low, shl_high}
use Rattle.bits.proofs.LowestBit.{lowest}
use Rattle.bits.proofs.BitLoop.{Left}
use Rattle.runs.specs.Runs.{Run}

-- n places in a row that pass count n
pub below-run : (t : ℕ → Bool) (p n : ℕ) → ((i : ℕ) → p ≤ i → i < p + n → t i ≡ true) → below t (p + n) ≡ below t p + n
below-run t p zero a =
    ap (below t) (let e : p + 0 ≡ p = omega arith in e) ∙ (let e : below t p ≡ below t p + 0 = omega arith in e)
below-run t p (suc n) a =
    let e : below t (suc (p + n)) ≡ below t p + suc n = omega (arith, below_next t (p + n) (a (p + n) (omega arith) (omega arith)), below-run t p n (λ i h l. a i h (omega arith))) in
    ap (below t) (let q : p + suc n ≡ suc (p + n) = omega arith in q) ∙ e

-- ## Counted: the zeros below the lowest set bit of the other bits
zeros_below : (k m i : ℕ) → m < 2 ^ k → i < count_trailing_zeros k m → bit_set m i ≡ false
zeros_below k m i h l =
    ⊎_elim (λ (e : m ≡ 0). ap (λ (w : ℕ). bit_set w i) e ∙ bit_zero i) (λ ne. (lowest k m ne h).none_before i l) (eq_or_ne m 0)

module _ (k w z : ℕ) (h : w < 2 ^ k) (inside : z < k) (set : bit_set w z ≡ true) where
  abbrev others : ℕ
  others = 2 ^ k - 1 - w / 2 ^ z

  other_bit : (d : ℕ) → d < k → bit_set others d ≡ not (bit_set w (z + d))
  other_bit d l = bit_not k (w / 2 ^ z) d (omega (arith, shr_le w z, h)) l ∙ ap not (bit_shr w z d)

  others-fit : others < 2 ^ k
  others-fit = omega (arith, pow_pos k)

  run_all : (i : ℕ) → z ≤ i → i < z + count_trailing_zeros k others → bit_set w i ≡ true
  run_all i l r =
      let d = i - z in
      let e : z + d ≡ i = omega arith in
      ap (bit_set w) (sym e) ∙ not-false (bit_set w (z + d)) (sym (other_bit d (omega (arith, trailing_le k others))) ∙ zeros_below k others d others-fit (omega arith))

  run-some : 0 < count_trailing_zeros k others
  run-some =
      ⊎_elim
      (λ (e : others ≡ 0). omega (arith, ap (count_trailing_zeros k) e ∙ trailing_of_zero k))
      (λ ne.
      ⊎_elim
      (λ (e : count_trailing_zeros k others ≡ 0).
      let s : bit_set others 0 ≡ true = ap (bit_set others) (sym e) ∙ (lowest k others ne others-fit).is_set in
      let z0 : z + 0 ≡ z = omega arith in
      absurd (clash (bit_set w z) set (ap (bit_set w) (sym z0) ∙ not-true (bit_set w (z + 0)) (sym (other_bit 0 (omega arith)) ∙ s))))
      (λ some. omega arith)
      (eq_or_ne (count_trailing_zeros k others) 0))
      (eq_or_ne others 0)

  -- all of them, or as many as are wanted
  pub run_min : (most : ℕ) → 0 < most → Run w z most (min (count_trailing_zeros k others) most)
  run_min most s = record { some = omega (arith, run-some); few = omega arith; all = λ i g r. run_all i g (omega arith) }

-- ## Left from a bit on
module _ (k w at : ℕ) (some : 0 < at) where
  abbrev half : ℕ
  half = w / 2 ^ (at - 1) / 2

  kept_bit : (i : ℕ) → bit_set (half * 2 * 2 ^ (at - 1)) i ≡ bit_set w i && leb at i
  kept_bit i =
      let l = at - 1 in
      ⊎_elim
      (λ (g : at ≤ i).
      let d = i - at in
      let e : i ≡ l + suc d = omega arith in
      let q : half * 2 / 2 ≡ half = omega arith in
      ap (bit_set (half * 2 * 2 ^ l)) e ∙ shl_high (half * 2) l (suc d) ∙ bit_up (half * 2) d ∙ ap (λ (x : ℕ). bit_set x d) q
      ∙ sym (bit_up (w / 2 ^ l) d) ∙ bit_shr w l (suc d) ∙ ap (bit_set w) (sym e)
      ∙ sym (ap (λ (b : Bool). bit_set w i && b) (le-leb at i g) ∙ and-true (bit_set w i)))
      (λ (g : i < at).
      ⊎_elim
      (λ (e : i ≡ l). ap (bit_set (half * 2 * 2 ^ l)) (let q : i ≡ l + 0 = omega arith in q) ∙ shl_high (half * 2) l 0 ∙ bit_first (half * 2) 0 (omega arith))
      (λ ne. shl_low (half * 2) l i (omega arith))
      (eq_or_ne i l)
      ∙ sym (ap (λ (b : Bool). bit_set w i && b) (lt-leb at i g) ∙ and-false (bit_set w i)))
      (le_or_lt at i)

  pub left_shifted : w < 2 ^ k → at ≤ k → Left k w (half * 2 * 2 ^ (at - 1) % 2 ^ k) at
  left_shifted h few =
      let l = at - 1 in
      let j = k - l in
      let low : w / 2 ^ l < 2 ^ j = shr_lt j l (subst (λ (x : ℕ). w < 2 ^ x) (let e : k ≡ j + l = omega arith in e) h) in
      let exact = shl_exact {a = half * 2} j l k (omega (arith, low)) (omega arith) in
      record { fits = mod-lt (half * 2 * 2 ^ l) (pow_pos k); rest = λ i. ap (λ (x : ℕ). bit_set x i) exact ∙ kept_bit i }

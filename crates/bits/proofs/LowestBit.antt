-- The lowest set bit of a word, and the word without it: what a loop over the set bits takes and keeps. Assumes nothing.
use mathlib.Core.Path.{◌≡◌, sym, ap, ap₂, ◌∙◌}
use mathlib.Core.Logic.{⊎_elim, ◌≢◌}
use mathlib.Core.Bool.{Bool, true, false, not, ◌&&◌, and-true}
use Prim.Native.Nat.{ℕ, zero, suc, ◌+◌, ◌-◌, ◌*◌, ◌/◌, ◌%◌, ◌^◌, ◌<◌, min}
use native.Mathlib.Nat.{pow-suc}
use native.Mathlib.Omega.{arith}
use lib.Bits.{bit_and, and_step, and_self, and_le_r}
use lib.Count.{count_trailing_zeros, under}
use lib.Dec.{eqb, eqb-suc-suc, eqb-suc-zero}
use Rattle.meaning.specs.Places.{bit_set}
use Rattle.meaning.proofs.Deciding.{eq_or_ne}
use Rattle.bits.proofs.Words.{bit_first, bit_up}

-- z is the lowest set bit of m, and rest is m without it
pub record Lowest (k m z rest : ℕ) : Type 0 where
  pub within : z < k
  pub is_set : bit_set m z ≡ true
  pub none_before : (i : ℕ) → i < z → bit_set m i ≡ false
  pub others : (i : ℕ) → bit_set rest i ≡ bit_set m i && not (eqb i z)

-- in an even word it is that of the half
lowest_even : (k m z rest : ℕ) → m % 2 ≡ 0 → Lowest k (m / 2) z rest → Lowest (suc k) m (suc z) (rest * 2)
lowest_even k m z rest e l = record { within = omega (arith, l.within); is_set = bit_up m z ∙ l.is_set; none_before = before; others = other }
  where
    before : (i : ℕ) → i < suc z → bit_set m i ≡ false
    before zero h = bit_first m 0 e
    before (suc i) h = bit_up m i ∙ l.none_before i (omega arith)

    other : (i : ℕ) → bit_set (rest * 2) i ≡ bit_set m i && not (eqb i (suc z))
    other zero = bit_first (rest * 2) 0 (omega arith) ∙ sym (ap (λ (b : Bool). b && not (eqb 0 (suc z))) (bit_first m 0 e))
    other (suc i) =
        bit_up (rest * 2) i ∙ ap (λ (x : ℕ). bit_set x i) (let q : rest * 2 / 2 ≡ rest = omega arith in q) ∙ l.others i
        ∙ sym (ap₂ (λ (b c : Bool). b && not c) (bit_up m i) (eqb-suc-suc i z))

lowest_odd : (k m : ℕ) → m % 2 ≡ 1 → Lowest (suc k) m 0 (m / 2 * 2)
lowest_odd k m e = record { within = omega arith; is_set = bit_first m 1 e; none_before = λ i h. absurd (omega arith); others = other }
  where
    other : (i : ℕ) → bit_set (m / 2 * 2) i ≡ bit_set m i && not (eqb i 0)
    other zero = bit_first (m / 2 * 2) 0 (omega arith) ∙ sym (ap (λ (b : Bool). b && false) (bit_first m 1 e))
    other (suc i) =
        bit_up (m / 2 * 2) i ∙ ap (λ (x : ℕ). bit_set x i) (let q : m / 2 * 2 / 2 ≡ m / 2 = omega arith in q) ∙ sym (bit_up m i)
        ∙ sym (and-true (bit_set m (suc i))) ∙ sym (ap (λ (c : Bool). bit_set m (suc i) && not c) (eqb-suc-zero i))

trailing_step : (k m b : ℕ) → m % 2 ≡ b → count_trailing_zeros (suc k) m ≡ under b (count_trailing_zeros k (m / 2))
unfolding count_trailing_zeros
trailing_step k m b e = ap (λ (x : ℕ). under x (count_trailing_zeros k (m / 2))) e

and_half : (m : ℕ) → bit_and m (m - 1) ≡ bit_and (m / 2) ((m - 1) / 2) * 2
and_half m = and_step m (m - 1) ∙ go (bit_and (m / 2) ((m - 1) / 2))
  where
    go : (x : ℕ) → x * 2 + min (m % 2) ((m - 1) % 2) ≡ x * 2
    go x = omega arith

-- `m & (m - 1)` is m without its lowest set bit, and that is at `trailing_zeros(m)`
pub lowest : (k m : ℕ) → m ≢ 0 → m < 2 ^ k → Lowest k m (count_trailing_zeros k m) (bit_and m (m - 1))
lowest zero m ne h = absurd (omega arith)
lowest (suc k) m ne h = ⊎_elim
    (λ (e : m % 2 ≡ 0).
    let half : (m - 1) / 2 ≡ m / 2 - 1 = omega arith in
    rw (trailing_step k m 0 e, and_half m, half) (lowest_even k m _ _ e (lowest k (m / 2) (λ z. ne (omega arith)) (omega (arith, pow-suc 2 k)))))
    (λ o.
    let e : m % 2 ≡ 1 = omega arith in
    let half : (m - 1) / 2 ≡ m / 2 = omega arith in
    rw (trailing_step k m 1 e, and_half m, half, and_self) (lowest_odd k m e))
    (eq_or_ne (m % 2) 0)

pub lowest_less : (m : ℕ) → m ≢ 0 → bit_and m (m - 1) < m
lowest_less m ne = omega (arith, and_le_r m (m - 1))

-- What is left of a word past some of its set bits, lowest first: `m & (m - 1)` takes one more. Assumes nothing.
use mathlib.Core.Path.{◌≡◌, sym, ap, ◌∙◌}
use mathlib.Core.Logic.{⊎_elim, ◌≢◌}
use mathlib.Core.Bool.{Bool, true, false, not, ◌&&◌, and-true}
use Prim.Native.Nat.{ℕ, suc, ◌-◌, ◌^◌, ◌≤◌, ◌<◌, zero-le}
use native.Mathlib.Omega.{arith}
use lib.Bits.{bit_and, and_le_r}
use lib.Count.{count_trailing_zeros}
use lib.Dec.{leb, eqb}
use borrow.Author.Tests.{le-leb, leb-true, ne_eqb, eqb-false, not-true}
use Rattle.meaning.specs.Places.{bit_set}
use Rattle.meaning.proofs.Deciding.{le_or_lt, eq_or_ne, clash, and_both, both_and, same_test}
use Rattle.meaning.proofs.Bitmaps.{bit_zero}
use Rattle.bits.proofs.LowestBit.{lowest}

-- k is the number of bits of the word
module _ (k word : ℕ) where
  -- m is what is left of the word: its bits from `at` on
  pub record Left (m at : ℕ) : Type 0 where
    pub fits : m < 2 ^ k
    pub rest : (i : ℕ) → bit_set m i ≡ bit_set word i && leb at i

  -- z is the next set bit from `at` on, and m is left after it
  pub record Next (at z m : ℕ) : Type 0 where
    pub within : z < k
    pub from : at ≤ z
    pub is_set : bit_set word z ≡ true
    pub none_between : (i : ℕ) → at ≤ i → i < z → bit_set word i ≡ false
    pub left : Left m (suc z)

  pub left-start : word < 2 ^ k → Left word 0
  left-start h = record { fits = h; rest = λ i. sym (ap (λ (b : Bool). bit_set word i && b) (le-leb 0 i zero-le) ∙ and-true (bit_set word i)) }

  clear_left : (m at i : ℕ) → Left m at → at ≤ i → bit_set m i ≡ false → bit_set word i ≡ false
  clear_left m at i l h e = sym (l.rest i ∙ ap (λ (b : Bool). bit_set word i && b) (le-leb at i h) ∙ and-true (bit_set word i)) ∙ e

  -- from `at` on without bit z, before which none is set, is from past z on
  past_bit : (at z i : ℕ) → at ≤ z → ((j : ℕ) → at ≤ j → j < z → bit_set word j ≡ false) → bit_set word i && leb at i && not (eqb i z) ≡ bit_set word i && leb (suc z) i
  past_bit at z i from between =
      same_test true (bit_set word i && leb at i && not (eqb i z)) (bit_set word i && leb (suc z) i)
      (λ e. let (rest, other) = and_both (bit_set word i && leb at i) (not (eqb i z)) e in
      let (set, later) = and_both (bit_set word i) (leb at i) rest in
      let apart = eqb-false i z (not-true (eqb i z) other) in
      both_and (bit_set word i) (leb (suc z) i) set
      (⊎_elim (λ (g : suc z ≤ i). le-leb (suc z) i g) (λ (g : i < suc z). absurd (clash (bit_set word i) set (between i (leb-true at i later) (omega (arith, apart))))) (le_or_lt (suc z) i)))
      (λ e. let (set, up) = and_both (bit_set word i) (leb (suc z) i) e in
      let past = leb-true (suc z) i up in
      both_and (bit_set word i && leb at i) (not (eqb i z)) (both_and (bit_set word i) (leb at i) set (le-leb at i (omega arith))) (ap not (ne_eqb i z (λ q. omega arith))))

  pub left_next : (m at : ℕ) → m ≢ 0 → Left m at → Next at (count_trailing_zeros k m) (bit_and m (m - 1))
  left_next m at ne l =
      let z = count_trailing_zeros k m in
      let low = lowest k m ne l.fits in
      let (set, later) = and_both (bit_set word z) (leb at z) (sym (l.rest z) ∙ low.is_set) in
      let from = leb-true at z later in
      let between : (i : ℕ) → at ≤ i → i < z → bit_set word i ≡ false = λ i h g. clear_left m at i l h (low.none_before i g) in
      record {
        within = low.within;
        from = from;
        is_set = set;
        none_between = between;
        left = record {
          fits = omega (arith, and_le_r m (m - 1), l.fits);
          rest = λ i. low.others i ∙ ap (λ (b : Bool). b && not (eqb i z)) (l.rest i) ∙ past_bit at z i from between;
        };
      }

  -- where no bit is left, none is set from `at` on
  pub left_end : (m at : ℕ) → m ≡ 0 → Left m at → (i : ℕ) → at ≤ i → bit_set word i ≡ false
  left_end m at e l i h = clear_left m at i l h (ap (λ (w : ℕ). bit_set w i) e ∙ bit_zero i)

  -- what is shown of bit z, of those before `at` and of clear bits holds of each bit up to z
  pub up_to_next : (P : ℕ → Type 0) (at z m : ℕ) → Next at z m → ((i : ℕ) → i < at → P i) → ((i : ℕ) → at ≤ i → bit_set word i ≡ false → P i) → P z
      → (i : ℕ) → i < suc z → P i
  up_to_next P at z m n old clear here i h = ⊎_elim
      (λ (g : at ≤ i). ⊎_elim (λ (e : i ≡ z). rw e here) (λ ne. clear i g (n.none_between i g (omega arith))) (eq_or_ne i z))
      (λ (g : i < at). old i g)
      (le_or_lt at i)

  -- and where no bit is left, of every bit
  pub up_to_end : (P : ℕ → Type 0) (m at : ℕ) → m ≡ 0 → Left m at → ((i : ℕ) → i < at → P i) → ((i : ℕ) → at ≤ i → bit_set word i ≡ false → P i) → (i : ℕ) → P i
  up_to_end P m at e l old clear i = ⊎_elim (λ (g : at ≤ i). clear i g (left_end m at e l i g)) (λ (g : i < at). old i g) (le_or_lt at i)

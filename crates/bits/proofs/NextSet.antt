-- The next marked place: searched word by word, what is left of a word shifted down. Assumes nothing.
use mathlib.Core.Path.{◌≡◌, sym, ap, ◌∙◌, subst}
use mathlib.Core.Logic.{⊎_elim, ◌≢◌}
use mathlib.Core.Bool.{true, false}
use mathlib.Core.List.{List}
use Rattle.std.proofs.Common.{Some, None, slice_get}
use Prim.Native.Nat.{ℕ, suc, ◌+◌, ◌-◌, ◌*◌, ◌/◌, ◌%◌, ◌^◌, ◌≤◌, ◌<◌, max}
use native.Mathlib.Omega.{arith}
use lib.Count.{count_trailing_zeros}
use lib.ListN.{length, get_or}
use lib.Pow.{shr_le}
use Rattle.meaning.specs.Limits.{block_words}
use Rattle.meaning.specs.Places.{places_from, bit_set, marked}
use Rattle.meaning.proofs.Deciding.{le_or_lt}
use Rattle.meaning.proofs.Counting.{places_none, places_first}
use Rattle.meaning.proofs.Bitmaps.{Fit, bit_zero, marked-block}
use Rattle.bits.specs.Ranges.{end_of, next_set}
use Rattle.bits.proofs.Words.{bit_shr, bit_within}
use Rattle.bits.proofs.LowestBit.{lowest}

module _ (m : List ℕ) where
  -- no place from p to before q is marked
  abbrev pub Clear : ℕ → ℕ → Type 0
  Clear p q = (r : ℕ) → p ≤ r → r < q → marked m r ≡ false

  next-found : (p q : ℕ) → p ≤ q → q < end_of m → marked m q ≡ true → Clear p q → Some q ≡ next_set m p
  unfolding next_set
  next-found p q h l e a =
      let d = q - p in
      let s : p + d ≡ q = omega arith in
      let n : end_of m - p ≡ d + suc (end_of m - suc q) = omega arith in
      sym (ap (λ (k : ℕ). slice_get (places_from (marked m) p k) 0) n
      ∙ ap (λ (ps : List ℕ). slice_get ps 0) (places_first (marked m) p d (end_of m - suc q) (λ i g. a (p + i) (omega arith) (omega arith)) (ap (marked m) s ∙ e))
      ∙ ap Some s)

  pub next_none : (p at : ℕ) → end_of m ≤ at → Clear p at → None ≡ next_set m p
  unfolding next_set
  next_none p at h a = sym (ap (λ (ps : List ℕ). slice_get ps 0) (places_none (marked m) p (end_of m - p) (λ k g. a (p + k) (omega arith) (omega arith))))

  -- what is left of the word from place at on
  abbrev pub rest_at : ℕ → ℕ
  rest_at at = get_or m (at / block_words) 0 / 2 ^ (at % block_words)

  rest_bit : (at r : ℕ) → at ≤ r → r < block_words * (at / block_words + 1) → marked m r ≡ bit_set (rest_at at) (r - at)
  rest_bit at r h l =
      ap (marked m) (let e : r ≡ block_words * (at / block_words) + (at % block_words + (r - at)) = omega arith in e)
      ∙ marked-block m (at / block_words) (at % block_words + (r - at)) (omega arith) ∙ sym (bit_shr (get_or m (at / block_words) 0) (at % block_words) (r - at))

  pub clear-on : (p at : ℕ) → rest_at at ≡ 0 → Clear p at → Clear p (block_words * (at / block_words + 1))
  clear-on p at e a r h l =
      ⊎_elim (λ (g : at ≤ r). rest_bit at r g l ∙ ap (λ (w : ℕ). bit_set w (r - at)) e ∙ bit_zero (r - at)) (λ (g : r < at). a r h g) (le_or_lt at r)

  pub next_here : (p at : ℕ) → p ≤ at → at < end_of m → Fit m → rest_at at ≢ 0 → Clear p at → Some (at + count_trailing_zeros block_words (rest_at at)) ≡ next_set m p
  next_here p at h o f ne a =
      let word = get_or m (at / block_words) 0 in
      let z = count_trailing_zeros block_words (rest_at at) in
      let low = lowest block_words (rest_at at) ne (omega (arith, f (at / block_words), shr_le word (at % block_words))) in
      let room : at % block_words + z < block_words = bit_within block_words word (at % block_words + z) (f (at / block_words)) (sym (bit_shr word (at % block_words) z) ∙ low.is_set) in
      let back : at + z - at ≡ z = omega arith in
      next-found p (at + z) (omega arith) (omega arith) (rest_bit at (at + z) (omega arith) (omega arith) ∙ ap (bit_set (rest_at at)) back ∙ low.is_set)
      (λ r g l. ⊎_elim (λ (i : at ≤ r). rest_bit at r i (omega arith) ∙ low.none_before (r - at) (omega arith)) (λ (i : r < at). a r g i) (le_or_lt at r))

-- the places of word b from p on begin at `at`, and no place from p to before that word is marked
module _ (m : List ℕ) (p b at : ℕ) (from : at ≡ max p (block_words * b)) (reached : p / block_words ≤ b) (clear : Clear m p (block_words * b)) where
  -- what is left of the word from there on
  abbrev rest : ℕ
  rest = get_or m b 0 / 2 ^ (at % block_words)

  in_word : at / block_words ≡ b
  in_word = omega arith

  same_rest : rest_at m at ≡ rest
  same_rest = ap (λ (w : ℕ). get_or m w 0 / 2 ^ (at % block_words)) in_word

  clear_before : Clear m p at
  clear_before r h l = clear r h (omega arith)

  pub word_clear : rest ≡ 0 → Clear m p (block_words * (b + 1))
  word_clear e = subst (λ (w : ℕ). Clear m p (block_words * (w + 1))) in_word (clear-on m p at (same_rest ∙ e) clear_before)

  pub next_in_word : b < length m → Fit m → rest ≢ 0 → Some (at + count_trailing_zeros block_words rest) ≡ next_set m p
  next_in_word o f ne =
      sym (ap (λ (w : ℕ). Some (at + count_trailing_zeros block_words w)) same_rest)
      ∙ next_here m p at (omega arith) (omega arith) f (λ z. ne (sym same_rest ∙ z)) clear_before

-- The lowest place that passes a test: found directly, in a word, and block by block. Assumes nothing.
use mathlib.Core.Path.{◌≡◌, refl, ap, ◌∙◌}
use mathlib.Core.Logic.{⊎_elim, ◌≢◌}
use mathlib.Core.Bool.{Bool, true, false, not, ◌&&◌}
use mathlib.Core.List.{List, [], ◌∷◌}
use Prim.Native.Nat.{ℕ, ◌+◌, ◌-◌, ◌*◌, ◌^◌, ◌≤◌, ◌<◌}
use native.Mathlib.Nat.{zero-add}
use native.Mathlib.Omega.{arith}
use lib.Bits.{bit_and, and_le_l}
use lib.Count.{count_trailing_zeros, trailing_of_zero}
use lib.ListN.{length, get_or}
use Rattle.std.specs.List.{position, position_or_len}
use Rattle.std.proofs.Common.{Option, Some, None, slice_get, unwrap_or}
use Rattle.std.proofs.lemmas.Bool.{le-ltb, lt-ltb}
use Rattle.std.proofs.lemmas.List.Sums.{fails_before_first, passes_at_first}
use Rattle.meaning.specs.Limits.{block_words}
use Rattle.meaning.specs.Places.{places_from, bit_set}
use Rattle.meaning.proofs.Deciding.{le_or_lt, eq_or_ne}
use Rattle.meaning.proofs.Counting.{Lowest, places_none, places_same, none_passes, lowest_is, is_lowest}
use Rattle.meaning.proofs.Bitmaps.{bit_zero}
use Rattle.bits.proofs.Words.{bit_and_lem, bit_not}
use Rattle.bits.proofs.LowestBit.{lowest}
use Rattle.search.specs.Search.{first_of}

module _ (t : ℕ → Bool) where
  -- no place below n passes
  abbrev pub NoneBelow : ℕ → Type 0
  NoneBelow n = (p : ℕ) → p < n → t p ≡ false

  -- ## What the lowest place is
  pub first_found : (n i : ℕ) → i < n → t i ≡ true → NoneBelow i → Some i ≡ first_of t n
  first_found n i h e a = let (rest, ps) = is_lowest t n i (record { within = h; passes = e; before = a }) in rw ps

  pub first_none : (n : ℕ) → NoneBelow n → None ≡ first_of t n
  first_none n a = rw (places_none t 0 n (λ p h. rw zero-add (a p h)))

  -- ## What it says
  pub found_first : (n i : ℕ) → Some i ≡ first_of t n → Lowest t n i
  found_first n i q = go (places_from t 0 n) refl q
    where
      go : (ps : List ℕ) → places_from t 0 n ≡ ps → Some i ≡ slice_get ps 0 → Lowest t n i
      go [] e q = absurd (cc q)
      go (k ∷ rest) e q = let same : i ≡ k = cc q in rw same (lowest_is t n k rest e)

  pub none_first : (n : ℕ) → None ≡ first_of t n → NoneBelow n
  none_first n q = go (places_from t 0 n) refl q
    where
      go : (ps : List ℕ) → places_from t 0 n ≡ ps → None ≡ slice_get ps 0 → NoneBelow n
      go [] e q = none_passes t n e
      go (k ∷ rest) e q = absurd (cc q)

  -- none below p, and none of the n places from there on
  none_more : (p n q : ℕ) → q ≤ p + n → NoneBelow p → ((i : ℕ) → i < n → t (p + i) ≡ false) → NoneBelow q
  none_more p n q h a b r l =
      ⊎_elim (λ (g : p ≤ r). ap t (let e : r ≡ p + (r - p) = omega arith in e) ∙ b (r - p) (omega arith)) (λ (g : r < p). a r g) (le_or_lt p r)

-- ## The first entry of a list that passes stands at the lowest such place
pub first_position : (t : ℕ → Bool) (xs : List ℕ) → position t xs ≡ first_of (λ i. t (get_or xs i 0)) (length xs)
first_position t xs =
    let i = position_or_len t xs in
    let n = length xs in
    let before : (k : ℕ) → k < i → t (get_or xs k 0) ≡ false = λ k h. fails_before_first t xs k 0 h in
    ⊎_elim
    (λ (out : n ≤ i). rw (le-ltb i n out) (first_none (λ k. t (get_or xs k 0)) n (λ k h. before k (omega arith))))
    (λ (within : i < n). rw (lt-ltb i n within) (first_found (λ k. t (get_or xs k 0)) n i within (passes_at_first t xs 0 within) before))
    (le_or_lt n i)

first_same : (t u : ℕ → Bool) (n : ℕ) → ((i : ℕ) → i < n → t i ≡ u i) → first_of t n ≡ first_of u n
first_same t u n a = rw (places_same t u 0 n (λ i h. rw zero-add (a i h)))

-- ## The lowest bit of `w & !v`, which has the bits of w that v has not
pub first_and_not : (k w v : ℕ) → w < 2 ^ k → v < 2 ^ k → first_of (bit_set (bit_and w (2 ^ k - 1 - v))) k ≡ first_of (λ i. bit_set w i && not (bit_set v i)) k
first_and_not k w v hw hv =
    first_same (bit_set (bit_and w (2 ^ k - 1 - v))) (λ i. bit_set w i && not (bit_set v i)) k
    (λ i h. bit_and_lem w (2 ^ k - 1 - v) i ∙ ap (λ (x : Bool). bit_set w i && x) (bit_not k v i hv h))

-- the lowest set bit, or the width
first_bit : (k w : ℕ) → w < 2 ^ k → count_trailing_zeros k w ≡ unwrap_or (first_of (bit_set w) k) k
first_bit k w h = ⊎_elim
    (λ (e : w ≡ 0). rw (e, trailing_of_zero k) (ap (λ (x : Option ℕ). unwrap_or x k) (first_none (bit_set 0) k (λ i l. bit_zero i))))
    (λ (ne : w ≢ 0).
    let low = lowest k w ne h in
    ap (λ (x : Option ℕ). unwrap_or x k) (first_found (bit_set w) k (count_trailing_zeros k w) low.within low.is_set low.none_before))
    (eq_or_ne w 0)

-- `w & !v` has the bits of w that v has not
pub first_of_one : (k w v : ℕ) → w < 2 ^ k → v < 2 ^ k
    → count_trailing_zeros k (bit_and w (2 ^ k - 1 - v)) ≡ unwrap_or (first_of (λ i. bit_set w i && not (bit_set v i)) k) k
first_of_one k w v hw hv =
    first_bit k (bit_and w (2 ^ k - 1 - v)) (omega (arith, and_le_l w (2 ^ k - 1 - v))) ∙ ap (λ (x : Option ℕ). unwrap_or x k) (first_and_not k w v hw hv)

-- ## One block more: u is the test in block b
module _ (t u : ℕ → Bool) (b : ℕ) (same : (i : ℕ) → i < block_words → t (block_words * b + i) ≡ u i) (none : NoneBelow t (block_words * b)) where
  pub block-found : (n i : ℕ) → b < n → Some i ≡ first_of u block_words → Some (block_words * b + i) ≡ first_of t (block_words * n)
  block-found n i h e =
      let low = found_first u block_words i e in
      first_found t (block_words * n) (block_words * b + i) (omega (arith, low.within)) (same i low.within ∙ low.passes)
      (none_more t (block_words * b) i (block_words * b + i) (omega arith) none (λ j g. same j (omega (arith, low.within)) ∙ low.before j g))

  pub block_none : None ≡ first_of u block_words → NoneBelow t (block_words * (b + 1))
  block_none e =
      none_more t (block_words * b) block_words (block_words * (b + 1)) (omega arith) none
      (λ i g. same i g ∙ none_first u block_words e i g)

-- the lowest place that passes is one of those asked
pub first_within : (t : ℕ → Bool) (n i : ℕ) → Some i ≡ first_of t n → i < n
first_within t n i e = (found_first t n i e).within

-- Value words: each word is of one sort, what is made is read back, and what is read can be made again. Assumes nothing.
use mathlib.Core.Path.{◌≡◌, refl, sym, ap}
use mathlib.Core.Logic.{◌⊎◌, inl, inr, ◌≢◌}
use mathlib.Core.Bool.{true, false}
use Prim.Native.Nat.{ℕ, suc, ◌+◌, ◌-◌, ◌*◌, ◌/◌, ◌%◌, ◌≤◌, ◌<◌}
use native.Mathlib.Omega.{arith}
use lib.IntN.{pos, negsuc}
use borrow.Author.Tests.{ne_eqb, lt-ltb, le-ltb, le-leb, leb-true, eqb-true}
use Rattle.meaning.specs.Answers.{gives, refused}
use Rattle.meaning.specs.Values.{Value, int, nil, ref, nil_word, int_of, is_ref, place_of, value_of, word_of, has_word, make}
use Rattle.meaning.proofs.Deciding.{le_or_lt, eq_or_ne, clash, and_both, true_or_false}

-- ## Three sorts
-- exactly one: each excludes the other two, and says what the word stands for
pub data Sort (w : ℕ) : Type 0 where
  integer : w % 2 ≡ 0 → w ≢ nil_word → is_ref w ≡ false → value_of w ≡ int (int_of w) → Sort w
  nothing : w % 2 ≢ 0 → w ≡ nil_word → is_ref w ≡ false → value_of w ≡ nil → Sort w
  reference : w % 2 ≢ 0 → w ≢ nil_word → is_ref w ≡ true → value_of w ≡ ref (place_of w) → Sort w

sorted : (w : ℕ) → (w % 2 ≡ 0) ⊎ (w % 2 ≢ 0) → (w ≡ nil_word) ⊎ (w ≢ nil_word) → Sort w
unfolding value_of
sorted w (inl e) (inl n) = absurd (omega arith)
sorted w (inl e) (inr n) = integer e n (rw e) (rw e)
sorted w (inr o) (inl n) = nothing o n (rw n) (rw n)
sorted w (inr o) (inr n) =
    let odd : w % 2 ≡ 1 = omega (arith, o) in
    reference o n (simp (odd, ne_eqb w nil_word n)) (simp (odd, ne_eqb w nil_word n))

pub sorts : (w : ℕ) → Sort w
sorts w = sorted w (eq_or_ne (w % 2) 0) (eq_or_ne w nil_word)

-- a word is a reference exactly if its value is one
pub ref-value : (w : ℕ) → is_ref w ≡ true → value_of w ≡ ref (place_of w)
ref-value w r = go (sorts w)
  where
    go : Sort w → value_of w ≡ ref (place_of w)
    go (integer _ _ f _) = absurd (clash (is_ref w) r f)
    go (nothing _ _ f _) = absurd (clash (is_ref w) r f)
    go (reference _ _ _ v) = v

pub value-ref : (w p : ℕ) → value_of w ≡ ref p → is_ref w ≡ true
value-ref w p e = go (sorts w)
  where
    go : Sort w → is_ref w ≡ true
    go (integer _ _ _ v) = cc
    go (nothing _ _ _ v) = cc
    go (reference _ _ r _) = r

pub not-ref : (w p : ℕ) → is_ref w ≡ false → value_of w ≢ ref p
not-ref w p f e = clash (is_ref w) (value-ref w p e) f

pub place_half : (w : ℕ) → is_ref w ≡ true → place_of w ≡ w / 2
place_half w r = let odd = eqb-true (w % 2) 1 (and_both _ _ r).0 in omega arith

-- ## Made and read
pub read_made : (v : Value) → has_word v ≡ true → (word_of v < 4294967296) × (value_of (word_of v) ≡ v)
unfolding value_of word_of
read_made (int (pos n)) h =
    let few : n ≤ 1073741823 = leb-true _ _ h in
    let even : (2 * n) % 2 ≡ 0 = omega arith in
    let low : 2 * n < 2147483648 = omega arith in
    let half : (2 * n) / 2 ≡ n = omega arith in
    (omega arith, simp (even, lt-ltb _ _ low, half))
read_made (int (negsuc n)) h =
    let few : n ≤ 1073741823 = leb-true _ _ (and_both _ _ h).0 in
    let even : (4294967294 - 2 * n) % 2 ≡ 0 = omega arith in
    let high : 2147483648 ≤ 4294967294 - 2 * n = omega arith in
    let half : (4294967294 - 2 * n) / 2 ≡ 2147483647 - n = omega arith in
    let below : 2147483647 - n < 2147483648 = omega arith in
    let back : 2147483648 - suc (2147483647 - n) ≡ n = omega arith in
    (omega arith, simp (even, le-ltb _ _ high, half, lt-ltb _ _ below, back))
read_made nil h = (omega arith, refl)
read_made (ref p) h =
    let few : p ≤ 2147483646 = leb-true _ _ h in
    let odd : (2 * p + 1) % 2 ≡ 1 = omega arith in
    let other : 2 * p + 1 ≢ 4294967295 = λ e. omega arith in
    let half : (2 * p + 1 - 1) / 2 ≡ p = omega arith in
    (omega arith, simp (odd, ne_eqb _ _ other, half))

int_made : (w : ℕ) → w < 4294967296 → w % 2 ≡ 0 → (2147483648 ≤ w) ⊎ (w < 2147483648)
    → (has_word (int (int_of w)) ≡ true) × (word_of (int (int_of w)) ≡ w)
unfolding word_of
int_made w h e (inl high) =
    let below : w / 2 < 2147483648 = omega arith in
    let few : 2147483648 - suc (w / 2) ≤ 1073741823 = omega arith in
    rw (le-ltb w 2147483648 high, lt-ltb _ _ below) (rw (le-leb _ _ few), omega arith)
int_made w h e (inr low) =
    let few : w / 2 ≤ 1073741823 = omega arith in
    rw (lt-ltb w 2147483648 low) (le-leb _ _ few, omega arith)

pub made_read : (w : ℕ) → w < 4294967296 → (has_word (value_of w) ≡ true) × (word_of (value_of w) ≡ w)
unfolding word_of
made_read w h = go (sorts w)
  where
    go : Sort w → (has_word (value_of w) ≡ true) × (word_of (value_of w) ≡ w)
    go (integer e _ _ v) = rw v (int_made w h e (le_or_lt 2147483648 w))
    go (nothing _ e _ v) = rw v (refl, sym e)
    go (reference o n _ v) =
        let few : place_of w ≤ 2147483646 = omega (arith, n) in
        rw v (le-leb _ _ few, omega (arith, o))

-- two values with the same word are equal
pub word_one : (u v : Value) → has_word u ≡ true → has_word v ≡ true → word_of u ≡ word_of v → u ≡ v
word_one u v hu hv e = cc ((read_made u hu).1, (read_made v hv).1)

-- ## The same of `make`
pub make-read : (w : ℕ) → w < 4294967296 → make (value_of w) ≡ gives w
unfolding make
make-read w h = let (has, same) = made_read w h in rw has (ap gives same)

pub read-make : (v : Value) (w : ℕ) → make v ≡ gives w → value_of w ≡ v
unfolding make
read-make v w e = go (true_or_false (has_word v))
  where
    go : (has_word v ≡ true) ⊎ (has_word v ≡ false) → value_of w ≡ v
    go (inl h) =
        let given : gives (word_of v) ≡ gives w = rw h at e in
        let same : word_of v ≡ w = cc in
        rw (← same) (read_made v h).1
    go (inr h) =
        let given : refused 10 0 ≡ gives w = rw h at e in
        cc

-- A bitmap and the test it holds: bit i of word b is the test at place 64 b + i, and a bitmap is no more than its bits. Assumes nothing.
use mathlib.Core.Path.{◌≡◌, refl, sym, ap, ap₂, ◌∙◌, subst}
use mathlib.Core.Bool.{Bool, true, false, cond}
use mathlib.Core.Logic.{⊎_elim}
use mathlib.Core.List.{List, [], ◌∷◌, map}
use Prim.Native.Nat.{ℕ, zero, suc, ◌+◌, ◌*◌, ◌/◌, ◌%◌, ◌^◌, ◌≤◌, ◌<◌}
use native.Mathlib.Nat.{add-zero, add-suc, suc-add, div-one, zero-div, zero-lt-suc, pow-suc}
use native.Mathlib.Numerals.{add-one, one-add}
use native.Mathlib.Omega.{arith}
use lib.Arith.{lt-one}
use lib.Dec.{eqb}
use lib.ListN.{length, get_or, replicate, length-map, get_or-eq_default}
use lib.Pow.{shr-shr, shr_lt}
use lib.Seq.{ext_get_or}
use borrow.Author.Tests.{eq-eqb, ne_eqb, eqb-true, eqb-false}
use Rattle.meaning.specs.Limits.{block_words}
use Rattle.meaning.specs.Places.{below, up_to, bit_of, bit_set, marked, bits_from, bitmap}
use Rattle.meaning.proofs.Deciding.{le_or_lt, clash}
use Rattle.meaning.proofs.Counting.{length-up_to, get_or-up_to, below_shift}

-- ## One word, over any number of bits

pub bit_low : (w : ℕ) → bit_of w 0 ≡ w % 2
bit_low w = ap (λ (x : ℕ). x % 2) (div-one w)

pub bit_half : (w i : ℕ) → bit_of (w / 2) i ≡ bit_of w (suc i)
bit_half w i = ap (λ (x : ℕ). x % 2) (shr-shr w 1 i ∙ ap (λ (x : ℕ). w / 2 ^ x) (one-add i))

-- a bit is 1 where the test says so, and 0 where it does not
pub bit_one : (w i : ℕ) → bit_set w i ≡ true → bit_of w i ≡ 1
bit_one w i e = eqb-true (bit_of w i) 1 e

pub bit_none : (w i : ℕ) → bit_set w i ≡ false → bit_of w i ≡ 0
bit_none w i e = let n : bit_of w i ≡ 1 → ⊥ = eqb-false (bit_of w i) 1 e in omega arith

pub bit_same : (a i b j : ℕ) → bit_set a i ≡ bit_set b j → bit_of a i ≡ bit_of b j
bit_same a i b j e = go (bit_set b j) refl
  where
    go : (c : Bool) → bit_set b j ≡ c → bit_of a i ≡ bit_of b j
    go true q = bit_one a i (e ∙ q) ∙ sym (bit_one b j q)
    go false q = bit_none a i (e ∙ q) ∙ sym (bit_none b j q)

pub bit_zero : (i : ℕ) → bit_set 0 i ≡ false
bit_zero i = ap (λ (x : ℕ). eqb (x % 2) 1) (zero-div (2 ^ i))

-- a word is its bits
pub word_ext : (k a b : ℕ) → a < 2 ^ k → b < 2 ^ k → ((i : ℕ) → i < k → bit_set a i ≡ bit_set b i) → a ≡ b
word_ext zero a b ha hb h = lt-one ha ∙ sym (lt-one hb)
word_ext (suc k) a b ha hb h =
    let half : (w : ℕ) → w < 2 ^ suc k → w / 2 < 2 ^ k = λ w l. shr_lt k 1 (subst (λ (x : ℕ). w < 2 ^ x) (sym (add-one k)) l) in
    let up : (w i : ℕ) → bit_set (w / 2) i ≡ bit_set w (suc i) = λ w i. ap (λ (x : ℕ). eqb x 1) (bit_half w i) in
    let e = word_ext k (a / 2) (b / 2) (half a ha) (half b hb) (λ i l. up a i ∙ h (suc i) (omega arith) ∙ sym (up b i)) in
    let f : a % 2 ≡ b % 2 = sym (bit_low a) ∙ bit_same a 0 b 0 (h 0 (zero-lt-suc k)) ∙ bit_low b in
    omega (arith, e, f)

module _ (t : ℕ → Bool) where
  pub bits_fit : (p n : ℕ) → bits_from t p n < 2 ^ n
  unfolding bits_from
  bits_fit p zero = omega arith
  bits_fit p (suc n) = go (t p) (bits_fit (suc p) n)
    where
      go : (b : Bool) → bits_from t (suc p) n < 2 ^ n → cond b 1 0 + 2 * bits_from t (suc p) n < 2 ^ suc n
      go true l = omega (arith, pow-suc 2 n)
      go false l = omega (arith, pow-suc 2 n)

  pub bits_at : (p n i : ℕ) → i < n → bit_set (bits_from t p n) i ≡ t (p + i)
  unfolding bits_from
  bits_at p zero i h = absurd (omega arith)
  bits_at p (suc n) zero h = ap (λ (x : ℕ). eqb x 1) (bit_low (cond (t p) 1 0 + 2 * bits_from t (suc p) n)) ∙ go (t p) (bits_from t (suc p) n) ∙ ap t (sym (add-zero p))
    where
      go : (b : Bool) (w : ℕ) → eqb ((cond b 1 0 + 2 * w) % 2) 1 ≡ b
      go true w = eq-eqb ((1 + 2 * w) % 2) 1 (omega arith)
      go false w = ne_eqb ((0 + 2 * w) % 2) 1 (λ e. omega arith)
  bits_at p (suc n) (suc i) h =
      ap (λ (x : ℕ). eqb x 1) (sym (bit_half (cond (t p) 1 0 + 2 * bits_from t (suc p) n) i))
      ∙ ap (λ (x : ℕ). bit_set x i) (go (t p) (bits_from t (suc p) n)) ∙ bits_at (suc p) n i (omega arith) ∙ ap t (suc-add p i ∙ sym (add-suc p i))
    where
      go : (b : Bool) (w : ℕ) → (cond b 1 0 + 2 * w) / 2 ≡ w
      go true w = omega arith
      go false w = omega arith

-- ## A table of n entries

pub length_table : (f : ℕ → ℕ) (n : ℕ) → length (map f (up_to n)) ≡ n
length_table f n = length-map (up_to n) f ∙ length-up_to n

pub get_or-map : (f : ℕ → ℕ) (l : List ℕ) (i : ℕ) → i < length l → get_or (map f l) i 0 ≡ f (get_or l i 0)
get_or-map f [] i h = absurd (omega arith)
get_or-map f (x ∷ l) zero h = refl
get_or-map f (x ∷ l) (suc i) h = get_or-map f l i (omega arith)

pub get_or_table : (f : ℕ → ℕ) (n i : ℕ) → i < n → get_or (map f (up_to n)) i 0 ≡ f i
get_or_table f n i h = get_or-map f (up_to n) i (omega (arith, length-up_to n)) ∙ ap f (get_or-up_to n i h)

-- a table filled entry by entry
pub is_table : (f : ℕ → ℕ) (l : List ℕ) (n : ℕ) → length l ≡ n → ((i : ℕ) → i < n → get_or l i 0 ≡ f i) → l ≡ map f (up_to n)
is_table f l n e a = ext_get_or 0 l (map f (up_to n)) (e ∙ sym (length_table f n)) (λ i h. a i (omega arith) ∙ sym (get_or_table f n i (omega arith)))

-- ## A bitmap

pub marked-block : (m : List ℕ) (b i : ℕ) → i < block_words → marked m (block_words * b + i) ≡ bit_set (get_or m b 0) i
unfolding marked
marked-block m b i h = ap₂ (λ (x y : ℕ). bit_set (get_or m x 0) y) (omega arith) (omega arith)

-- outside nothing is marked
pub marked_out : (m : List ℕ) (p : ℕ) → block_words * length m ≤ p → marked m p ≡ false
unfolding marked
marked_out m p h =
    let l : length m ≤ p / block_words = omega arith in
    ap (λ (w : ℕ). bit_set w (p % block_words)) (get_or-eq_default m 0 l) ∙ bit_zero (p % block_words)

pub marked_in : (m : List ℕ) (p : ℕ) → marked m p ≡ true → p < block_words * length m
marked_in m p e = ⊎_elim (λ h. absurd (clash (marked m p) e (marked_out m p h))) (λ h. h) (le_or_lt (block_words * length m) p)

-- nor in a bitmap of zeros
pub marked_zeros : (n p : ℕ) → marked (replicate n 0) p ≡ false
unfolding marked
marked_zeros n p = ap (λ (w : ℕ). bit_set w (p % block_words)) (zeros n (p / block_words)) ∙ bit_zero (p % block_words)
  where
    zeros : (n b : ℕ) → get_or (replicate {A = ℕ} n 0) b 0 ≡ 0
    zeros zero b = refl
    zeros (suc n) zero = refl
    zeros (suc n) (suc b) = zeros n b

-- the marks below place i of block b: those of the blocks before it, and those of its word
pub below-block : (m : List ℕ) (b i : ℕ) → i ≤ block_words → below (marked m) (block_words * b + i) ≡ below (marked m) (block_words * b) + below (bit_set (get_or m b 0)) i
below-block m b i h = below_shift (marked m) (bit_set (get_or m b 0)) (block_words * b) i (λ k l. marked-block m b k (omega arith))

pub below_at : (m : List ℕ) (p : ℕ) → below (marked m) p ≡ below (marked m) (block_words * (p / block_words)) + below (bit_set (get_or m (p / block_words) 0)) (p % block_words)
below_at m p = ap (below (marked m)) {x = p} {y = block_words * (p / block_words) + p % block_words} (omega arith) ∙ below-block m (p / block_words) (p % block_words) (omega arith)

-- words of 64 bits
abbrev pub Fit : List ℕ → Type 0
Fit m = (b : ℕ) → get_or m b 0 < 2 ^ block_words

-- two bitmaps that mark the same places are one
pub map_ext : (a b : List ℕ) → length a ≡ length b → Fit a → Fit b → ((p : ℕ) → p < block_words * length a → marked a p ≡ marked b p) → a ≡ b
map_ext a b e fa fb h =
    ext_get_or 0 a b e (λ i l. word_ext block_words (get_or a i 0) (get_or b i 0) (fa i) (fb i)
    (λ j g. sym (marked-block a i j g) ∙ h (block_words * i + j) (omega arith) ∙ marked-block b i j g))

module _ (t : ℕ → Bool) (n : ℕ) where
  pub length-bitmap : length (bitmap t n) ≡ n
  unfolding bitmap
  length-bitmap = length_table (λ b. bits_from t (block_words * b) block_words) n

  get_or-bitmap : (b : ℕ) → b < n → get_or (bitmap t n) b 0 ≡ bits_from t (block_words * b) block_words
  unfolding bitmap
  get_or-bitmap b h = get_or_table (λ b. bits_from t (block_words * b) block_words) n b h

  pub fit-bitmap : Fit (bitmap t n)
  fit-bitmap b =
      ⊎_elim
      (λ (h : n ≤ b). let e : get_or (bitmap t n) b 0 ≡ 0 = get_or-eq_default (bitmap t n) 0 {n = b} (omega (arith, length-bitmap)) in omega arith)
      (λ (h : b < n). subst (λ (w : ℕ). w < 2 ^ block_words) (sym (get_or-bitmap b h)) (bits_fit t (block_words * b) block_words))
      (le_or_lt n b)

  -- a bitmap marks the places that pass
  pub marked-bitmap : (p : ℕ) → p < block_words * n → marked (bitmap t n) p ≡ t p
  unfolding marked
  marked-bitmap p h =
      ap (λ (w : ℕ). bit_set w (p % block_words)) (get_or-bitmap (p / block_words) (omega arith))
      ∙ bits_at t (block_words * (p / block_words)) block_words (p % block_words) (omega arith)
      ∙ ap t (let e : block_words * (p / block_words) + p % block_words ≡ p = omega arith in e)

  -- and is the one that does
  pub is-bitmap : (m : List ℕ) → length m ≡ n → Fit m → ((p : ℕ) → p < block_words * n → marked m p ≡ t p) → m ≡ bitmap t n
  is-bitmap m e f a =
      map_ext m (bitmap t n) (e ∙ sym length-bitmap) f fit-bitmap
      (λ p h. let l : p < block_words * n = omega arith in a p l ∙ sym (marked-bitmap p l))

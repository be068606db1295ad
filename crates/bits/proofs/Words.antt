-- The bits of one word, over any width: read, counted, joined and shifted. Assumes nothing.
use mathlib.Core.Path.{◌≡◌, refl, sym, ap, ap₂, ◌∙◌}
use mathlib.Core.Logic.{⊎_elim, ◌≢◌}
use mathlib.Core.Bool.{Bool, true, false, not, ◌&&◌, ◌||◌, cond}
use Prim.Native.Nat.{ℕ, zero, suc, ◌+◌, ◌-◌, ◌*◌, ◌/◌, ◌%◌, ◌^◌, ◌≤◌, ◌<◌, min, max}
use native.Mathlib.Nat.{lt_of_lt_of_le, div-eq_of_lt, pow-suc, mod-lt}
use native.Mathlib.Numerals.{one-add, add-one}
use native.Mathlib.Omega.{arith}
use lib.Arith.{digits_div, digits_mod}
use lib.Bits.{bit_and, bit_or, and_step, and_shr, or_step, or_shr, shifted_even, shifted_half}
use lib.Count.{ones_in, ones}
use lib.Dec.{eqb}
use lib.Pow.{pow_pos, pow_mono, mod-pow-add, mod-mod-pow, shr-shr, shl_exact, shl-shr}
use borrow.Author.Tests.{eq-eqb, ne_eqb}
use Rattle.meaning.specs.Places.{below, bit_of, bit_set}
use Rattle.meaning.proofs.Deciding.{le_or_lt, eq_or_ne, true_or_false, clash}
use Rattle.meaning.proofs.Counting.{below-zero, below_next, below_stay, below_flat, below_same, below_shift}
use Rattle.meaning.proofs.Bitmaps.{bit_low, bit_half, bit_one, bit_none}

-- ## Read

pub bit_first : (w b : ℕ) → w % 2 ≡ b → bit_set w 0 ≡ eqb b 1
bit_first w b e = ap (λ (x : ℕ). eqb x 1) (bit_low w ∙ e)

pub bit_up : (w i : ℕ) → bit_set w (suc i) ≡ bit_set (w / 2) i
bit_up w i = ap (λ (x : ℕ). eqb x 1) (sym (bit_half w i))

pub bit_shr : (w j i : ℕ) → bit_set (w / 2 ^ j) i ≡ bit_set w (j + i)
bit_shr w j i = ap (λ (x : ℕ). eqb (x % 2) 1) (shr-shr w j i)

-- a word of k bits has none from bit k on
bit_past : (k w i : ℕ) → w < 2 ^ k → k ≤ i → bit_set w i ≡ false
bit_past k w i h l = ap (λ (x : ℕ). eqb (x % 2) 1) (div-eq_of_lt (lt_of_lt_of_le h (pow_mono l)))

pub bit_within : (k w i : ℕ) → w < 2 ^ k → bit_set w i ≡ true → i < k
bit_within k w i h e = ⊎_elim (λ (l : k ≤ i). absurd (clash (bit_set w i) e (bit_past k w i h l))) (λ (l : i < k). l) (le_or_lt k i)

-- ## Counted

-- the lowest j bits, and then k more
pub below_shr : (w j k : ℕ) → below (bit_set w) (j + k) ≡ below (bit_set w) j + below (bit_set (w / 2 ^ j)) k
below_shr w j k = below_shift (bit_set w) (bit_set (w / 2 ^ j)) j k (λ i h. sym (bit_shr w j i))

pub below_bit : (w k : ℕ) → below (bit_set w) (suc k) ≡ below (bit_set w) k + bit_of w k
below_bit w k =
    ⊎_elim (λ e. omega (arith, below_next (bit_set w) k e, bit_one w k e)) (λ e. omega (arith, below_stay (bit_set w) k e, bit_none w k e)) (true_or_false (bit_set w k))

pub below-low : (w : ℕ) → below (bit_set w) 1 ≡ w % 2
below-low w = omega (arith, below_bit w 0, below-zero (bit_set w), bit_low w)

pub ones_in_below : (k w : ℕ) → ones_in k w ≡ below (bit_set w) k
unfolding ones_in
ones_in_below zero w = sym (below-zero (bit_set w))
ones_in_below (suc k) w =
    let e : below (bit_set w) (1 + k) ≡ w % 2 + ones_in k (w / 2) = below_shr w 1 k ∙ ap₂ (λ (x y : ℕ). x + y) (below-low w) (sym (ones_in_below k (w / 2))) in
    sym (ap (below (bit_set w)) (sym (one-add k)) ∙ e)

-- counting further than a word's width counts no more
below_past : (k w n : ℕ) → w < 2 ^ k → k ≤ n → below (bit_set w) n ≡ below (bit_set w) k
below_past k w n h l = below_flat (bit_set w) k n l (λ r g i. bit_past k w r h g)

lt-pow : (w : ℕ) → w < 2 ^ w
lt-pow zero = omega arith
lt-pow (suc w) = omega (arith, lt-pow w, pow-suc 2 w)

pub ones_below : (k w : ℕ) → w < 2 ^ k → ones w ≡ below (bit_set w) k
unfolding ones
ones_below k w h =
    ones_in_below w w
    ∙ ⊎_elim (λ (l : k ≤ w). below_past k w w h l) (λ (l : w < k). sym (below_past w w k (lt-pow w) (omega arith))) (le_or_lt k w)

-- the j lowest bits of a word, and none above them
bit_rest : (w i k : ℕ) → bit_set (w % 2 ^ (suc k + i)) i ≡ bit_set w i
bit_rest w i k =
    let e : w % 2 ^ (suc k + i) / 2 ^ i ≡ w / 2 ^ i % 2 ^ suc k = ap (λ (x : ℕ). x / 2 ^ i) (mod-pow-add w (suc k) i) ∙ digits_div (w / 2 ^ i % 2 ^ suc k) (mod-lt w (pow_pos i)) in
    let f : w / 2 ^ i % 2 ^ suc k % 2 ≡ w / 2 ^ i % 2 = rw (← add-one k) (mod-mod-pow (w / 2 ^ i) k 1) in
    ap (λ (x : ℕ). eqb (x % 2) 1) e ∙ ap (λ (x : ℕ). eqb x 1) f

pub ones_rest : (j w : ℕ) → ones (w % 2 ^ j) ≡ below (bit_set w) j
ones_rest j w =
    ones_below j (w % 2 ^ j) (mod-lt w (pow_pos j))
    ∙ below_same (bit_set (w % 2 ^ j)) (bit_set w) j
    (λ i h. ap (λ (n : ℕ). bit_set (w % 2 ^ n) i) (let e : j ≡ suc (j - suc i) + i = omega arith in e) ∙ bit_rest w i (j - suc i))

-- ## Joined and shifted

pub bit_or_lem : (a b i : ℕ) → bit_set (bit_or a b) i ≡ bit_set a i || bit_set b i
bit_or_lem a b i =
    ap (λ (x : ℕ). eqb (x % 2) 1) (or_shr a b i ∙ or_step (a / 2 ^ i) (b / 2 ^ i))
    ∙ ap (λ (x : ℕ). eqb x 1) (digits_mod (bit_or (a / 2 ^ i / 2) (b / 2 ^ i / 2)) (let h : max (bit_of a i) (bit_of b i) < 2 = omega arith in h)) ∙ go (bit_set a i) refl
  where
    go : (c : Bool) → bit_set a i ≡ c → eqb (max (bit_of a i) (bit_of b i)) 1 ≡ c || bit_set b i
    go true e = eq-eqb (max (bit_of a i) (bit_of b i)) 1 (omega (arith, bit_one a i e))
    go false e = ap (λ (x : ℕ). eqb x 1) (let z : max (bit_of a i) (bit_of b i) ≡ bit_of b i = omega (arith, bit_none a i e) in z)

pub bit_and_lem : (a b i : ℕ) → bit_set (bit_and a b) i ≡ bit_set a i && bit_set b i
bit_and_lem a b i =
    ap (λ (x : ℕ). eqb (x % 2) 1) (and_shr a b i ∙ and_step (a / 2 ^ i) (b / 2 ^ i))
    ∙ ap (λ (x : ℕ). eqb x 1) (digits_mod (bit_and (a / 2 ^ i / 2) (b / 2 ^ i / 2)) (let h : min (bit_of a i) (bit_of b i) < 2 = omega arith in h)) ∙ go (bit_set a i) refl
  where
    go : (c : Bool) → bit_set a i ≡ c → eqb (min (bit_of a i) (bit_of b i)) 1 ≡ c && bit_set b i
    go true e = ap (λ (x : ℕ). eqb x 1) (let z : min (bit_of a i) (bit_of b i) ≡ bit_of b i = omega (arith, bit_one a i e) in z)
    go false e = ap (λ (x : ℕ). eqb x 1) (let z : min (bit_of a i) (bit_of b i) ≡ 0 = omega (arith, bit_none a i e) in z)

-- `!w` in k bits
pub bit_not : (k w i : ℕ) → w < 2 ^ k → i < k → bit_set (2 ^ k - 1 - w) i ≡ not (bit_set w i)
bit_not zero w i h l = absurd (omega arith)
bit_not (suc k) w zero h l =
    let e : (2 ^ suc k - 1 - w) % 2 ≡ 1 - w % 2 = omega (arith, pow-suc 2 k) in
    bit_first (2 ^ suc k - 1 - w) (1 - w % 2) e
    ∙ ⊎_elim (λ (o : w % 2 ≡ 1). rw o (ap not (sym (bit_first w 1 o)))) (λ ne. let z : w % 2 ≡ 0 = omega arith in rw z (ap not (sym (bit_first w 0 z)))) (eq_or_ne (w % 2) 1)
bit_not (suc k) w (suc i) h l =
    let e : (2 ^ suc k - 1 - w) / 2 ≡ 2 ^ k - 1 - w / 2 = omega (arith, pow-suc 2 k) in
    bit_up (2 ^ suc k - 1 - w) i ∙ ap (λ (x : ℕ). bit_set x i) e ∙ bit_not k (w / 2) i (omega (arith, pow-suc 2 k)) (omega arith) ∙ ap not (sym (bit_up w i))

pub shl_low : (w i j : ℕ) → j < i → bit_set (w * 2 ^ i) j ≡ false
shl_low w zero j h = absurd (omega arith)
shl_low w (suc i) zero h = bit_first (w * 2 ^ suc i) 0 (shifted_even w i)
shl_low w (suc i) (suc j) h = bit_up (w * 2 ^ suc i) j ∙ ap (λ (x : ℕ). bit_set x j) (shifted_half w i) ∙ shl_low w i j (omega arith)

pub shl_high : (w i j : ℕ) → bit_set (w * 2 ^ i) (i + j) ≡ bit_set w j
shl_high w i j = sym (bit_shr (w * 2 ^ i) i j) ∙ ap (λ (x : ℕ). bit_set x j) (shl-shr w i)

-- bit z alone, set where a test says so
pub bit_alone : (k z i : ℕ) (t : Bool) → z < k → bit_set (cond t 1 0 * 2 ^ z % 2 ^ k) i ≡ eqb i z && t
bit_alone k z i t h =
    ap (λ (x : ℕ). bit_set x i) (shl_exact 1 z k (few t) (omega arith))
    ∙ ⊎_elim
    (λ (l : z ≤ i). ap (bit_set (cond t 1 0 * 2 ^ z)) (let e : i ≡ z + (i - z) = omega arith in e) ∙ shl_high (cond t 1 0) z (i - z)
    ∙ ⊎_elim
    (λ (e : i ≡ z). let d : i - z ≡ 0 = omega arith in rw (d, eq-eqb i z e) (low t))
    (λ ne. rw (ne_eqb i z ne) (bit_past 1 (cond t 1 0) (i - z) (few t) (omega arith)))
    (eq_or_ne i z))
    (λ (l : i < z). let ne : i ≢ z = λ e. omega arith in rw (ne_eqb i z ne) (shl_low (cond t 1 0) z i l))
    (le_or_lt z i)
  where
    few : (t : Bool) → cond t 1 0 < 2 ^ 1
    few true = omega arith
    few false = omega arith

    low : (t : Bool) → bit_set (cond t 1 0) 0 ≡ t
    low true = refl
    low false = refl

-- a word of n set bits
pub bit_ones : (n j : ℕ) → j < n → bit_set (2 ^ n - 1) j ≡ true
bit_ones zero j h = absurd (omega arith)
bit_ones (suc n) zero h = bit_first (2 ^ suc n - 1) 1 (omega (arith, pow-suc 2 n, pow_pos n))
bit_ones (suc n) (suc j) h =
    bit_up (2 ^ suc n - 1) j
    ∙ ap (λ (x : ℕ). bit_set x j) (let e : (2 ^ suc n - 1) / 2 ≡ 2 ^ n - 1 = omega (arith, pow-suc 2 n, pow_pos n) in e) ∙ bit_ones n j (omega arith)

-- A range of places marked too: in one word by a mask, in a bitmap word by word. Assumes nothing.
use mathlib.Core.Path.{◌≡◌, refl, sym, ap, ap₂, ◌∙◌, subst}
use mathlib.Core.Logic.{⊎_elim}
use mathlib.Core.Bool.{Bool, true, false, ◌||◌}
use mathlib.Core.List.{List}
use Prim.Native.Nat.{ℕ, ◌+◌, ◌-◌, ◌*◌, ◌/◌, ◌%◌, ◌^◌, ◌≤◌, ◌<◌, max}
use native.Mathlib.Omega.{arith}
use lib.Bits.{bit_or}
use lib.Dec.{leb, ltb}
use lib.ListN.{length, get_or, set}
use lib.Pow.{shr_lt, shl_exact, ones_lt}
use lib.Seq.{get_or-set_same, get_or-set_other}
use borrow.Author.Tests.{leb-true, ltb-true, le-leb, lt-ltb}
use Rattle.meaning.specs.Limits.{block_words}
use Rattle.meaning.specs.Places.{bit_set, marked}
use Rattle.meaning.proofs.Deciding.{le_or_lt, eq_or_ne, clash, same_test, and_both, both_and, or_one, or_left, or_right}
use Rattle.meaning.proofs.Bitmaps.{Fit, marked_out, length-bitmap, is-bitmap, marked-bitmap}
use Rattle.bits.specs.Ranges.{end_of, between, Gains, set_range}
use Rattle.bits.proofs.Words.{bit_shr, bit_within, bit_or_lem, shl_low, shl_high, bit_ones}

-- ## Between

pub between_in : (from to q : ℕ) → from ≤ q → q < to → between from to q ≡ true
between_in from to q h l = both_and (leb from q) (ltb q to) (le-leb from q h) (lt-ltb q to l)

pub between_is : (from to q : ℕ) → between from to q ≡ true → (from ≤ q) × (q < to)
between_is from to q e = let (l, r) = and_both (leb from q) (ltb q to) e in (leb-true from q l, ltb-true q to r)

between_same : (a b q c d r : ℕ) → ((a ≤ q) × (q < b) → (c ≤ r) × (r < d)) → ((c ≤ r) × (r < d) → (a ≤ q) × (q < b)) → between a b q ≡ between c d r
between_same a b q c d r f g =
    same_test true (between a b q) (between c d r)
    (λ e. let (x, y) = f (between_is a b q e) in between_in c d r x y)
    (λ e. let (x, y) = g (between_is c d r e) in between_in a b q x y)

adds_none : (t : Bool) (from to q : ℕ) → ((from ≤ q) × (q < to) → ⊥) → t ≡ t || between from to q
adds_none t from to q n =
    same_test true t (t || between from to q) (λ e. or_left t (between from to q) e)
    (λ e. ⊎_elim (λ x. x) (λ x. absurd (n (between_is from to q x))) (or_one t (between from to q) e))

-- ## One word

-- the k lowest of n set bits, shifted up by i, are bits i to i + k - 1
bit_mask : (n i k j : ℕ) → i + k ≤ n → bit_set ((2 ^ n - 1) / 2 ^ (n - k) * 2 ^ i % 2 ^ n) j ≡ between i (i + k) j
bit_mask n i k j h =
    let run = (2 ^ n - 1) / 2 ^ (n - k) in
    let fits : run < 2 ^ k = shr_lt k (n - k) (subst (λ (x : ℕ). 2 ^ n - 1 < 2 ^ x) (let e : n ≡ k + (n - k) = omega arith in e) (ones_lt n)) in
    let high : i ≤ j → bit_set (run * 2 ^ i) j ≡ bit_set (2 ^ n - 1) (n - k + (j - i)) =
    λ l. ap (bit_set (run * 2 ^ i)) (let e : j ≡ i + (j - i) = omega arith in e) ∙ shl_high run i (j - i) ∙ bit_shr (2 ^ n - 1) (n - k) (j - i) in
    ap (λ (x : ℕ). bit_set x j) (shl_exact k i n fits (omega arith))
    ∙ same_test true (bit_set (run * 2 ^ i) j) (between i (i + k) j)
    (λ e.
    ⊎_elim (λ (l : i ≤ j). between_in i (i + k) j l (omega (arith, bit_within n (2 ^ n - 1) (n - k + (j - i)) (ones_lt n) (sym (high l) ∙ e))))
    (λ (l : j < i). absurd (clash _ e (shl_low run i j l))) (le_or_lt i j))
    (λ e. let (l, r) = between_is i (i + k) j e in high l ∙ bit_ones n (n - k + (j - i)) (omega arith))

pub bit_filled : (n w i k j : ℕ) → i + k ≤ n → bit_set (bit_or w ((2 ^ n - 1) / 2 ^ (n - k) * 2 ^ i % 2 ^ n)) j ≡ bit_set w j || between i (i + k) j
bit_filled n w i k j h = bit_or_lem w ((2 ^ n - 1) / 2 ^ (n - k) * 2 ^ i % 2 ^ n) j ∙ ap (λ (b : Bool). bit_set w j || b) (bit_mask n i k j h)

-- ## A bitmap

pub gains_none : (m : List ℕ) (from : ℕ) → Gains m m from from
gains_none m from q = adds_none (marked m q) from from q (λ b. omega arith)

-- one word stored with some bits set too
pub gains_part : (m : List ℕ) (at k w : ℕ) → at < end_of m → at % block_words + k ≤ block_words
    → ((j : ℕ) → bit_set w j ≡ bit_set (get_or m (at / block_words) 0) j || between (at % block_words) (at % block_words + k) j) → Gains m (set m (at / block_words) w) at (at + k)
unfolding marked
gains_part m at k w h l a q =
    let b = at / block_words in
    let i = at % block_words in
    let j = q % block_words in
    ⊎_elim
    (λ (e : q / block_words ≡ b).
    ap (λ (x : ℕ). bit_set (get_or (set m b w) x 0) j) e ∙ ap (λ (x : ℕ). bit_set x j) (get_or-set_same m b w 0 (omega arith)) ∙ a j
    ∙ ap₂ (λ (x : ℕ) (t : Bool). bit_set (get_or m x 0) j || t) (sym e) (between_same i (i + k) j at (at + k) q (λ b. (omega arith, omega arith)) (λ b. (omega arith, omega arith))))
    (λ ne. ap (λ (x : ℕ). bit_set x j) (get_or-set_other m b (q / block_words) w 0 ne) ∙ adds_none (marked m q) at (at + k) q (λ b. ne (omega arith)))
    (eq_or_ne (q / block_words) b)

pub gains_more : (a b c : List ℕ) (from at to : ℕ) → from ≤ at → at ≤ to → Gains a b from at → Gains b c at to → Gains a c from to
gains_more a b c from at to h l f g q = g q ∙ ap (λ (x : Bool). x || between at to q) (f q) ∙ go (marked a q)
  where
    go : (x : Bool) → x || between from at q || between at to q ≡ x || between from to q
    go true = refl
    go false =
        same_test true (between from at q || between at to q) (between from to q)
        (λ e. ⊎_elim (λ x. let b = between_is from at q x in between_in from to q (omega arith) (omega arith)) (λ x. let b = between_is at to q x in between_in from to q (omega arith) (omega arith)) (or_one (between from at q) (between at to q) e))
        (λ e. let b = between_is from to q e in
        ⊎_elim (λ (i : at ≤ q). or_right (between from at q) (between at to q) (between_in at to q i b.1)) (λ (i : q < at). or_left (between from at q) (between at to q) (between_in from at q b.0 i)) (le_or_lt at q))

-- a bitmap that has gained all of them; where from ≥ to there is none
pub gains_all : (m after : List ℕ) (from at to : ℕ) → length after ≡ length m → Fit after → to ≤ at → at ≤ max from to → Gains m after from at → after ≡ set_range m from to
unfolding set_range
gains_all m after from at to e f h l g =
    is-bitmap (λ q. marked m q || between from to q) (length m) after e f
    (λ q i. g q ∙ ap (λ (t : Bool). marked m q || t) (between_same from at q from to q (λ b. (omega arith, omega arith)) (λ b. (omega arith, omega arith))))

pub marked_range : (m : List ℕ) (from to q : ℕ) → q < end_of m → marked (set_range m from to) q ≡ marked m q || between from to q
unfolding set_range
marked_range m from to q h = marked-bitmap (λ q. marked m q || between from to q) (length m) q h

length_range : (m : List ℕ) (from to : ℕ) → length (set_range m from to) ≡ length m
unfolding set_range
length_range m from to = length-bitmap (λ q. marked m q || between from to q) (length m)

pub gains_range : (m : List ℕ) (from to : ℕ) → to ≤ end_of m → Gains m (set_range m from to) from to
gains_range m from to h q = ⊎_elim
    (λ (l : end_of m ≤ q).
    marked_out (set_range m from to) q (rw length_range l) ∙ sym (marked_out m q l) ∙ adds_none (marked m q) from to q (λ b. omega arith))
    (λ (l : q < end_of m). marked_range m from to q l)
    (le_or_lt (end_of m) q)

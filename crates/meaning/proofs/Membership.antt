-- A number in a list stands at one of its positions, and n different numbers below n are all of those. Assumes nothing.
use mathlib.Core.Path.{◌≡◌, refl, sym, ap, ◌∙◌}
use mathlib.Core.Logic.{⊎_elim, ◌≢◌}
use mathlib.Core.Bool.{true, false, true≢false}
use mathlib.Core.List.{List, [], ◌∷◌}
use Prim.Native.Nat.{ℕ, zero, suc, ◌≤◌, ◌<◌}
use native.Mathlib.Omega.{arith}
use lib.Dec.{eqb}
use lib.ListN.{length, take, get_or}
use lib.Seq.{get_or-take, length-take-le}
use borrow.Author.Tests.{eqb-true, eq-eqb, ne_eqb}
use Rattle.meaning.specs.Places.{below, is_in}
use Rattle.meaning.proofs.Deciding.{or_one, or_left, or_right, true_or_false}
use Rattle.meaning.proofs.Counting.{places_count, below_more, below_full, full_below}

-- ## Positions
pub in_at : (x : ℕ) (l : List ℕ) → is_in x l ≡ true → (k : ℕ) × (k < length l) × (get_or l k 0 ≡ x)
in_at x [] e = absurd (true≢false (sym e))
in_at x (y ∷ l) e =
    ⊎_elim
    (λ same. (0, omega arith, sym (eqb-true x y same)))
    (λ later. let (k, h, q) = in_at x l later in (suc k, omega arith, q))
    (or_one (eqb x y) (is_in x l) e)

pub at_in : (x : ℕ) (l : List ℕ) (k : ℕ) → k < length l → get_or l k 0 ≡ x → is_in x l ≡ true
at_in x [] k h e = absurd (omega arith)
at_in x (y ∷ l) zero h e = or_left (eqb x y) (is_in x l) (eq-eqb x y (sym e))
at_in x (y ∷ l) (suc k) h e = or_right (eqb x y) (is_in x l) (at_in x l k (omega arith) e)

-- of the first i entries
module _ (l : List ℕ) (i : ℕ) (fit : i ≤ length l) where
  pub in_take : (x : ℕ) → is_in x (take i l) ≡ true → (k : ℕ) × (k < i) × (get_or l k 0 ≡ x)
  in_take x e =
      let (k, h, q) = in_at x (take i l) e in
      let g : k < i = omega (arith, length-take-le i l fit) in
      (k, g, sym (get_or-take i l k 0 g) ∙ q)

  pub take_in : (x k : ℕ) → k < i → get_or l k 0 ≡ x → is_in x (take i l) ≡ true
  take_in x k h e = at_in x (take i l) k (omega (arith, length-take-le i l fit)) (get_or-take i l k 0 h ∙ e)

-- ## Different numbers
-- as many numbers below n are in a list of different numbers below n as it has entries
count_in : (n : ℕ) (l : List ℕ) → ((i : ℕ) → i < length l → get_or l i 0 < n) → ((i k : ℕ) → i < k → k < length l → get_or l i 0 ≢ get_or l k 0)
    → below (λ x. is_in x l) n ≡ length l
unfolding below
count_in n [] within once = places_count (λ x. false) false 0 n (λ k h. refl)
count_in n (y ∷ l) within once =
    below_more (λ x. is_in x l) (λ x. is_in x (y ∷ l)) n y (within 0 (omega arith))
    (⊎_elim (λ again. let (k, h, e) = in_at y l again in absurd (once 0 (suc k) (omega arith) (omega arith) (sym e))) (λ new. new) (true_or_false (is_in y l)))
    (at_in y (y ∷ l) 0 (omega arith) refl)
    (λ x ne. rw (ne_eqb x y ne))
    ∙ ap suc (count_in n l (λ i h. within (suc i) (omega arith)) (λ i k g h. once (suc i) (suc k) (omega arith) (omega arith)))

module _ (n : ℕ) (l : List ℕ) (within : (i : ℕ) → i < length l → get_or l i 0 < n) (once : (i k : ℕ) → i < k → k < length l → get_or l i 0 ≢ get_or l k 0) where
  -- n of them are all
  pub all_in : length l ≡ n → (x : ℕ) → x < n → is_in x l ≡ true
  all_in e = below_full (λ x. is_in x l) n (count_in n l within once ∙ e)

  -- and all of them are n
  pub in_all : ((x : ℕ) → x < n → is_in x l ≡ true) → length l ≡ n
  in_all a = sym (count_in n l within once) ∙ full_below (λ x. is_in x l) n a

-- Words in a row copied: in any order, and one after the other as a part of a block move. Assumes nothing.
use mathlib.Core.Path.{◌≡◌, refl, sym, ap, ◌∙◌}
use mathlib.Core.Logic.{⊎_elim}
use mathlib.Core.List.{List}
use Prim.Native.Nat.{ℕ, zero, suc, ◌+◌, ◌-◌, ◌/◌, ◌≤◌, ◌<◌, max}
use native.Mathlib.Omega.{arith}
use lib.ListN.{length, get_or, set, length-set}
use lib.Seq.{get_or-set_same, get_or-set_other, ext_get_or}
use Rattle.meaning.specs.Blocks.{moves}
use Rattle.meaning.proofs.Deciding.{le_or_lt, eq_or_ne}
use Rattle.meaning.proofs.BlockMoves.{moves_next}
use Rattle.runs.specs.Runs.{copies, four_at, with_four}

-- ## Stored in any order, once or more
module _ (heap₀ : List ℕ) (from to : ℕ) where
  -- the first n words are copied, as they stood at first
  pub record Landed (n : ℕ) (heap : List ℕ) : Type 0 where
    pub long : length heap ≡ length heap₀
    pub here : (p : ℕ) → p < n → get_or heap (to + p) 0 ≡ get_or heap₀ (from + p) 0
    pub other : (p : ℕ) → (to ≤ p → to + n ≤ p) → get_or heap p 0 ≡ get_or heap₀ p 0

  pub landed_start : Landed 0 heap₀
  landed_start = record { long = refl; here = λ p l. absurd (omega arith); other = λ p out. refl }

  -- one more of them, or one again
  pub landed_put : (n m q x y v : ℕ) (heap : List ℕ) → q ≤ n → m ≡ max n (suc q) → x ≡ to + q → y ≡ from + q → x < length heap₀ → v ≡ get_or heap₀ y 0 → Landed n heap
      → Landed m (set heap x v)
  landed_put n m q x y v heap few more at old inside e l = record {
    long = length-set heap x v ∙ l.long;
    here = λ p h. ⊎_elim
        (λ (same : p ≡ q).
        ap (λ (z : ℕ). get_or (set heap x v) z 0) (let z : to + p ≡ x = omega arith in z) ∙ get_or-set_same heap x v 0 (omega (arith, l.long)) ∙ e
        ∙ ap (λ (z : ℕ). get_or heap₀ z 0) (let z : y ≡ from + p = omega arith in z))
        (λ ne. get_or-set_other heap x (to + p) v 0 (λ z. ne (omega arith)) ∙ l.here p (omega arith))
        (eq_or_ne p q);
    other = λ p out. get_or-set_other heap x p v 0 (λ z. omega (arith, out (omega arith))) ∙ l.other p (λ g. omega (arith, out g));
  }

  -- what is still to be copied stands as it stood
  pub landed_read : (n q y : ℕ) (heap : List ℕ) → to ≤ from → n ≤ q → y ≡ from + q → Landed n heap → get_or heap y 0 ≡ get_or heap₀ y 0
  landed_read n q y heap down h e l = l.other y (λ g. omega arith)

  -- four more of them, those before may be among them
  pub landed_four : (n m q : ℕ) (heap words : List ℕ) → q ≤ n → n ≤ q + 4 → m ≡ q + 4 → to + q + 4 ≤ length heap₀ → words ≡ four_at (from + q) heap₀
      → Landed n heap → Landed m (with_four (to + q) words heap)
  landed_four n m q heap words few near e inside is l =
      rw is
      (landed_put (max n (q + 3)) m (q + 3) _ _ _ _ (omega arith) (omega arith) (omega arith) refl (omega arith) (ap (λ (z : ℕ). get_or heap₀ z 0) (omega arith))
      (landed_put (max n (q + 2)) _ (q + 2) _ _ _ _ (omega arith) (omega arith) (omega arith) refl (omega arith) (ap (λ (z : ℕ). get_or heap₀ z 0) (omega arith))
      (landed_put (max n (q + 1)) _ (q + 1) _ _ _ _ (omega arith) (omega arith) (omega arith) refl (omega arith) (ap (λ (z : ℕ). get_or heap₀ z 0) (omega arith))
      (landed_put n _ q _ _ _ heap few (omega arith) refl refl (omega arith) refl l))))

  copies_landed : (n : ℕ) → to ≤ from → to + n ≤ length heap₀ → Landed n (copies from to n heap₀)
  unfolding copies
  copies_landed zero down h = landed_start
  copies_landed (suc n) down h =
      let l = copies_landed n down (omega arith) in
      landed_put n (suc n) n (to + n) (from + n) _ (copies from to n heap₀) (omega arith) (omega arith) refl refl (omega arith) (landed_read n n (from + n) _ down (omega arith) refl l) l

  -- so they are copied as if one after the other
  pub landed_end : (n : ℕ) (heap : List ℕ) → to ≤ from → to + n ≤ length heap₀ → Landed n heap → heap ≡ copies from to n heap₀
  landed_end n heap down h l =
      let all = copies_landed n down h in
      ext_get_or 0 heap (copies from to n heap₀) (l.long ∙ sym all.long)
      (λ p g. ⊎_elim
      (λ (up : to ≤ p).
      ⊎_elim
      (λ (past : to + n ≤ p). l.other p (λ x. past) ∙ sym (all.other p (λ x. past)))
      (λ (low : p < to + n).
      let e : to + (p - to) ≡ p = omega arith in
      rw e at (l.here (p - to) (omega arith) ∙ sym (all.here (p - to) (omega arith))))
      (le_or_lt (to + n) p))
      (λ (before : p < to). l.other p (λ x. absurd (omega arith)) ∙ sym (all.other p (λ x. absurd (omega arith))))
      (le_or_lt to p))

  -- one to three words: the first, the middle one and the last
  pub landed_few : (n : ℕ) → 0 < n → n < 4 → to ≤ from → to + n ≤ length heap₀
      → set (set (set heap₀ to (get_or heap₀ from 0)) (to + n / 2) (get_or heap₀ (from + n / 2) 0)) (to + (n - 1)) (get_or heap₀ (from + (n - 1)) 0) ≡ copies from to n heap₀
  landed_few n some few down h =
      landed_end n _ down h
      (landed_put (max 1 (suc (n / 2))) n (n - 1) _ _ _ _ (omega arith) (omega arith) refl refl (omega arith) refl
      (landed_put 1 _ (n / 2) _ _ _ _ (omega arith) refl refl refl (omega arith) refl
      (landed_put 0 1 0 to from _ heap₀ (omega arith) (omega arith) (omega arith) (omega arith) (omega arith) refl landed_start)))

  -- what is still to be copied stands as it stood, four words of it too
  four_read : (n q : ℕ) (heap : List ℕ) → to ≤ from → n ≤ q → Landed n heap → four_at (from + q) heap ≡ four_at (from + q) heap₀
  four_read n q heap down h l =
      rw (
        landed_read n q (from + q) heap down h refl l,
        landed_read n (q + 1) (from + q + 1) heap down (omega arith) (omega arith) l,
        landed_read n (q + 2) (from + q + 2) heap down (omega arith) (omega arith) l,
        landed_read n (q + 3) (from + q + 3) heap down (omega arith) (omega arith) l,
      )

  -- four more, read as they stand now
  pub landed_next : (i : ℕ) (heap words : List ℕ) → to ≤ from → to + i + 4 ≤ length heap₀ → words ≡ four_at (from + i) heap → Landed i heap → Landed (i + 4) (with_four (to + i) words heap)
  landed_next i heap words down h e l = landed_four i (i + 4) i heap words (omega arith) (omega arith) refl h (e ∙ four_read i i heap down (omega arith) l) l

  -- the last four, read as they stood at first
  pub landed_last : (n i : ℕ) (heap words : List ℕ) → 4 ≤ n → n - 4 ≤ i → i ≤ n → to ≤ from → to + n ≤ length heap₀ → words ≡ four_at (from + (n - 4)) heap₀ → Landed i heap
      → with_four (to + (n - 4)) words heap ≡ copies from to n heap₀
  landed_last n i heap words many past few down h e l = landed_end n _ down h (landed_four i n (n - 4) heap words past (omega arith) (omega arith) (omega arith) e l)

-- ## One after the other
-- the next k live words stand in a row: to move them is to copy k words
module _ (places : List ℕ) (a : ℕ) (heap : List ℕ) (p j : ℕ) (from : a ≤ j) where
  pub moves-run : (k : ℕ) → ((i : ℕ) → i < k → get_or places (j + i) 0 ≡ p + i) → moves places a (j + k - a) heap ≡ copies p j k (moves places a (j - a) heap)
  unfolding copies
  moves-run zero row = ap (λ (n : ℕ). moves places a n heap) (let e : j + 0 - a ≡ j - a = omega arith in e)
  moves-run (suc k) row =
      let h = moves places a (j + k - a) heap in
      ap (λ (n : ℕ). moves places a n heap) (let e : j + suc k - a ≡ j + k + 1 - a = omega arith in e)
      ∙ moves_next places a heap (j + k) (omega arith)
      ∙ ap (λ (q : ℕ). set h (j + k) (get_or h q 0)) (row k (omega arith))
      ∙ ap (λ (g : List ℕ). set g (j + k) (get_or g (p + k) 0)) (moves-run k (λ i l. row i (omega arith)))

-- A block move changes only its own block below L, and every order that keeps the dependences slides the heap. Assumes nothing.
use mathlib.Core.Path.{◌≡◌, refl, sym, ap, ◌∙◌}
use mathlib.Core.Logic.{⊎_elim, ◌≢◌}
use mathlib.Core.List.{List, [], ◌∷◌, ◌++◌, map}
use Prim.Native.Nat.{ℕ, zero, suc, ◌+◌, ◌*◌, ◌-◌, ◌/◌, ◌≤◌, ◌<◌, min}
use native.Mathlib.Numerals.{add-one}
use native.Mathlib.Omega.{arith}
use lib.ListN.{length, take, drop, get_or, set, length-set, length-append, length-drop, length-map, get_or-append}
use lib.Seq.{get_or-set_same, get_or-set_other, ext_get_or, take-suc, take-length, get_or-append-add, get_or-drop}
use Rattle.meaning.specs.Limits.{block_words}
use Rattle.meaning.specs.Blocks.{moves, step, run, slid, Keeps}
use Rattle.meaning.proofs.Deciding.{le_or_lt, eq_or_ne}
use Rattle.meaning.proofs.Bitmaps.{get_or-map}

-- no live word's new place is above its old one
pub record Up (places : List ℕ) : Type 0 where
  pub up : (j : ℕ) → j < length places → j ≤ get_or places j 0

-- ## Live words number a to a + n - 1, for any places
module _ (places : List ℕ) (a : ℕ) (heap : List ℕ) where
  moves-length : (n : ℕ) → length (moves places a n heap) ≡ length heap
  unfolding moves
  moves-length zero = refl
  moves-length (suc n) = length-set (moves places a n heap) (a + n) _ ∙ moves-length n

  -- they change no word but those at their new places
  moves_only : (n p : ℕ) → (a ≤ p → a + n ≤ p) → get_or (moves places a n heap) p 0 ≡ get_or heap p 0
  unfolding moves
  moves_only zero p out = refl
  moves_only (suc n) p out =
      get_or-set_other (moves places a n heap) (a + n) p _ 0 (λ e. omega (arith, out (omega arith)))
      ∙ moves_only n p (λ l. omega (arith, out l))

  -- as a loop has it: j counts up from a
  pub moves_none : (j : ℕ) → j ≤ a → moves places a (j - a) heap ≡ heap
  unfolding moves
  moves_none j l = let z : j - a ≡ 0 = omega arith in rw z

  pub moves_next : (j : ℕ) → a ≤ j → moves places a (j + 1 - a) heap ≡ (let h = moves places a (j - a) heap in set h j (get_or h (get_or places j 0) 0))
  unfolding moves
  moves_next j l =
      let z : j + 1 - a ≡ suc (j - a) = omega arith in
      let q : a + (j - a) ≡ j = omega arith in
      let h = moves places a (j - a) heap in
      ap (λ (n : ℕ). moves places a n heap) z ∙ ap (λ (k : ℕ). set h k (get_or h (get_or places k 0) 0)) q

  -- where no new place is above the old one, each word arrives as it was
  moves-here : Up places → length places ≤ length heap → (n p : ℕ) → a + n ≤ length places → a ≤ p → p < a + n → get_or (moves places a n heap) p 0 ≡ get_or heap (get_or places p 0) 0
  unfolding moves
  moves-here u fit zero p few l r = absurd (omega arith)
  moves-here u fit (suc n) p few l r =
      let m = moves places a n heap in
      ⊎_elim
      (λ (e : p ≡ a + n).
      rw e
      (get_or-set_same m (a + n) _ 0 (omega (arith, moves-length n))
      ∙ moves_only n (get_or places (a + n) 0) (λ g. u.up (a + n) (omega arith))))
      (λ (ne : p ≢ a + n). get_or-set_other m (a + n) p _ 0 ne ∙ moves-here u fit n p (omega arith) l (omega arith))
      (eq_or_ne p (a + n))

-- ## One step
module _ (places : List ℕ) (t : ℕ) (heap : List ℕ) where
  pub moves-step : (e : ℕ) → e ≡ min (block_words * t + block_words) (length places) → moves places (block_words * t) (e - block_words * t) heap ≡ step places t heap
  unfolding step
  moves-step e q =
      let z : e - block_words * t ≡ min block_words (length places - block_words * t) = omega arith in
      ap (λ (n : ℕ). moves places (block_words * t) n heap) z

  pub step-length : length (step places t heap) ≡ length heap
  unfolding step
  step-length = moves-length places (block_words * t) heap (min block_words (length places - block_words * t))

  -- whatever the places are, it changes only the words of its own target block that are below L
  pub step_only : (p : ℕ) → (p < length places → p / block_words ≢ t) → get_or (step places t heap) p 0 ≡ get_or heap p 0
  unfolding step
  step_only p out =
      let n : ℕ = min block_words (length places - block_words * t) in
      moves_only places (block_words * t) heap n p (λ l. ⊎_elim (λ g. g) (λ (g : p < block_words * t + n). absurd (out (omega arith) (omega arith))) (le_or_lt (block_words * t + n) p))

-- what a step leaves
pub record Stepped (places : List ℕ) (t : ℕ) (heap heap' : List ℕ) : Type 0 where
  pub here : (p : ℕ) → p < length places → p / block_words ≡ t → get_or heap' p 0 ≡ get_or heap (get_or places p 0) 0
  pub other : (p : ℕ) → p / block_words ≢ t → get_or heap' p 0 ≡ get_or heap p 0
  pub above : (p : ℕ) → length places ≤ p → get_or heap' p 0 ≡ get_or heap p 0
  pub long : length heap' ≡ length heap

pub step_at : (places : List ℕ) (t : ℕ) (heap : List ℕ) → Up places → length places ≤ length heap → Stepped places t heap (step places t heap)
unfolding step
step_at places t heap u fit = record {
  here = λ p l e. moves-here places (block_words * t) heap u fit (min block_words (length places - block_words * t)) p (omega arith) (omega arith) (omega arith);
  other = λ p ne. step_only places t heap p (λ l. ne);
  above = λ p l. step_only places t heap p (λ g e. omega arith);
  long = step-length places t heap;
}

-- ## The steps of an order
module _ (places : List ℕ) where
  pub run_length : (order heap : List ℕ) → length (run places order heap) ≡ length heap
  unfolding run
  run_length [] heap = refl
  run_length (t ∷ order) heap = run_length order (step places t heap) ∙ step-length places t heap

  run-append : (a b heap : List ℕ) → run places (a ++ b) heap ≡ run places b (run places a heap)
  unfolding run
  run-append [] b heap = refl
  run-append (t ∷ a) b heap = run-append a b (step places t heap)

-- as a loop has it: the steps at the first i positions are done
module _ (places order heap : List ℕ) where
  pub run_none : run places (take 0 order) heap ≡ heap
  unfolding run
  run_none = refl

  pub run_next : (i : ℕ) → i < length order → run places (take (i + 1) order) heap ≡ step places (get_or order i 0) (run places (take i order) heap)
  unfolding run
  run_next i l = rw (add-one i, take-suc order i 0 l) (run-append places (take i order) (get_or order i 0 ∷ []) heap)

  pub run_all : (i : ℕ) → i ≡ length order → run places (take i order) heap ≡ run places order heap
  run_all i e = ap (λ (o : List ℕ). run places o heap) (ap (λ (k : ℕ). take k order) e ∙ take-length order)

-- after i steps: their blocks hold the words that go there, and all else is as it was
record Mid (places order : List ℕ) (i : ℕ) (heap₀ heap : List ℕ) : Type 0 where
  done : (p : ℕ) → p < length places → (k : ℕ) → k < i → get_or order k 0 ≡ p / block_words → get_or heap p 0 ≡ get_or heap₀ (get_or places p 0) 0
  rest : (p : ℕ) → p < length places → ((k : ℕ) → k < i → get_or order k 0 ≢ p / block_words) → get_or heap p 0 ≡ get_or heap₀ p 0
  above : (p : ℕ) → length places ≤ p → get_or heap p 0 ≡ get_or heap₀ p 0
  long : length heap ≡ length heap₀

module _ (places order heap₀ : List ℕ) (u : Up places) (g : Keeps places order) (fit : length places ≤ length heap₀) where
  -- what step number i reads is what stood there at first
  fresh : (heap : List ℕ) (i : ℕ) → i < length order → Mid places order i heap₀ heap
      → (p : ℕ) → p < length places → p / block_words ≡ get_or order i 0 → get_or heap (get_or places p 0) 0 ≡ get_or heap₀ (get_or places p 0) 0
  fresh heap i il m p pl e =
      ⊎_elim (λ high. m.above (get_or places p 0) high) (λ low. m.rest (get_or places p 0) low not_done) (le_or_lt (length places) (get_or places p 0))
    where
      not_done : (k : ℕ) → k < i → get_or order k 0 ≢ get_or places p 0 / block_words
      not_done k kl q =
          ⊎_elim
          (λ same. g.once k i kl il (sym same ∙ e))
          (λ differ. let (k', l, e') = g.after k p (omega arith) pl (sym q) differ in g.once k' i (omega arith) il (e' ∙ e))
          (eq_or_ne (p / block_words) (get_or order k 0))

  mid_next : (heap : List ℕ) (i : ℕ) → i < length order → Mid places order i heap₀ heap → Mid places order (i + 1) heap₀ (step places (get_or order i 0) heap)
  mid_next heap i il m =
      let t : ℕ = get_or order i 0 in
      let st : Stepped places t heap (step places t heap) = step_at places t heap u (omega (arith, m.long)) in
      record {
        done = λ p pl k kl q. ⊎_elim
            (λ e. st.here p pl e ∙ fresh heap i il m p pl e)
            (λ ne. st.other p ne ∙ m.done p pl k (⊎_elim (λ e. absurd (ne (sym q ∙ ap (λ (x : ℕ). get_or order x 0) e))) (λ d. omega arith) (eq_or_ne k i)) q)
            (eq_or_ne (p / block_words) t);
        rest = λ p pl no. st.other p (λ e. no i (omega arith) (sym e)) ∙ m.rest p pl (λ k kl. no k (omega arith));
        above = λ p l. st.above p l ∙ m.above p l;
        long = st.long ∙ m.long;
      }

  mid : (i : ℕ) → i ≤ length order → Mid places order i heap₀ (run places (take i order) heap₀)
  mid zero l = rw (run_none places order heap₀) (record { done = λ p pl k kl q. absurd (omega arith); rest = λ p pl no. refl; above = λ p l. refl; long = refl })
  mid (suc i) l = rw (← add-one i, run_next places order heap₀ i l) (mid_next (run places (take i order) heap₀) i l (mid i (omega arith)))

-- ## The words that all steps together should leave
module _ (places heap : List ℕ) where
  moved_length : length (map (λ p. get_or heap p 0) places) ≡ length places
  moved_length = length-map places (λ p. get_or heap p 0)

  pub length-slid : length places ≤ length heap → length (slid places heap) ≡ length heap
  unfolding slid
  length-slid fit = simp (length-append, length-map, length-drop) (omega arith)

  pub slid-low : (p : ℕ) → p < length places → get_or (slid places heap) p 0 ≡ get_or heap (get_or places p 0) 0
  unfolding slid
  slid-low p l =
      get_or-append (map (λ q. get_or heap q 0) places) (drop (length places) heap) 0 p (omega (arith, moved_length))
      ∙ get_or-map (λ q. get_or heap q 0) places p l

  pub slid_high : (p : ℕ) → length places ≤ p → get_or (slid places heap) p 0 ≡ get_or heap p 0
  unfolding slid
  slid_high p l =
      let words = map (λ q. get_or heap q 0) places in
      let e : p ≡ length words + (p - length places) = omega (arith, moved_length) in
      let q : length places + (p - length places) ≡ p = omega arith in
      ap (λ (x : ℕ). get_or (words ++ drop (length places) heap) x 0) e
      ∙ get_or-append-add words (drop (length places) heap) (p - length places) 0
      ∙ get_or-drop (length places) heap (p - length places) 0
      ∙ ap (λ (x : ℕ). get_or heap x 0) q

-- every order that keeps the dependences slides the heap
pub run_good : (places order heap : List ℕ) → Up places → Keeps places order → length places ≤ length heap → run places order heap ≡ slid places heap
run_good places order heap u g fit =
    let m : Mid places order (length order) heap (run places order heap) = rw run_all at (mid places order heap u g fit (length order) (omega arith)) in
    ext_get_or 0 (run places order heap) (slid places heap) (m.long ∙ sym (length-slid places heap fit))
    (λ p l. ⊎_elim
    (λ high. m.above p high ∙ sym (slid_high places heap p high))
    (λ low. let (k, kl, e) = g.every (p / block_words) (omega arith) in m.done p low k kl e ∙ sym (slid-low places heap p low))
    (le_or_lt (length places) p))

pub run_agree : (places order order' heap : List ℕ) → Up places → Keeps places order → Keeps places order' → length places ≤ length heap → run places order heap ≡ run places order' heap
run_agree places order order' heap u g g' fit = run_good places order heap u g fit ∙ sym (run_good places order' heap u g' fit)

-- The judge accepts just the orders that keep the dependences, and refuses any other where it breaks. Assumes nothing.
use mathlib.Core.Path.{◌≡◌, refl, ap, ap₂, ◌∙◌, subst}
use mathlib.Core.Logic.{◌⊎◌, inl, inr, ⊎_elim, ◌≢◌}
use mathlib.Core.Bool.{Bool, true, false, not, ◌||◌, cond}
use mathlib.Core.List.{List, [], ◌∷◌, ◌++◌}
use Prim.Native.Nat.{ℕ, ◌/◌, ◌≤◌, ◌<◌, min}
use native.Mathlib.Nat.{zero-add}
use native.Mathlib.Omega.{arith}
use lib.Dec.{ltb, eqb}
use lib.ListN.{length, take, get_or}
use borrow.Author.Tests.{ltb-true, lt-ltb, eqb-true, eqb-false, eq-eqb, ne_eqb, not-false}
use Rattle.meaning.specs.Limits.{block_words}
use Rattle.meaning.specs.Places.{places_from, up_to, is_in}
use Rattle.meaning.specs.Blocks.{run, targets, early_from, breaks, order_breaks, Keeps}
use Rattle.meaning.proofs.Deciding.{true_or_false, clash, or_none}
use Rattle.meaning.proofs.Counting.{places_none, Lowest, none_passes, lowest_is, is_lowest, length-up_to, get_or-up_to}
use Rattle.meaning.proofs.Membership.{in_at, at_in, in_take, take_in, all_in, in_all}
use Rattle.meaning.proofs.TooEarly.{ready_not-early, not-early_ready}
use Rattle.meaning.proofs.BlockMoves.{Up, run_agree}

-- entry i is below T, no repeat, and not too early
pub record Fine (places order : List ℕ) (i : ℕ) : Type 0 where
  pub within : get_or order i 0 < targets places
  pub fresh : (k : ℕ) → k < i → get_or order k 0 ≢ get_or order i 0
  pub after : (j : ℕ) → j < length places → get_or places j 0 / block_words ≡ get_or order i 0 → j / block_words ≢ get_or order i 0 → (k : ℕ) × (k < i) × (get_or order k 0 ≡ j / block_words)

abbrev pub AllFine : List ℕ → List ℕ → Type 0
AllFine places order = (i : ℕ) → i < length order → Fine places order i

-- the order breaks at position i: the first whose entry is not fine; if none and the length is not T, the smaller of length and T
pub record Breaks (places order : List ℕ) (i : ℕ) : Type 0 where
  pub before : (k : ℕ) → k < i → Fine places order k
  pub here : ((i < length order) × (Fine places order i → ⊥)) ⊎ (AllFine places order × (length order ≢ targets places) × (i ≡ min (length order) (targets places)))

module _ (places order : List ℕ) where
  -- ## One position
  abbrev pub breaks_at : ℕ → Bool
  breaks_at i = breaks places (take i order) (get_or order i 0)

  fine_is : (i : ℕ) → i < length order → breaks_at i ≡ false → Fine places order i
  fine_is i h e =
      let t = get_or order i 0 in
      let done = take i order in
      let (low, rest) = or_none (not (ltb t (targets places))) (is_in t done || early_from done t 0 places) e in
      let (new, ready) = or_none (is_in t done) (early_from done t 0 places) rest in
      let fit : i ≤ length order = omega arith in
      record {
        within = ltb-true t (targets places) (not-false (ltb t (targets places)) low);
        fresh = λ k l q. clash (is_in t done) (take_in order i fit t k l q) new;
        after = λ j l s n. in_take order i fit (j / block_words) (not-early_ready done t places ready j l s n);
      }

  is_fine : (i : ℕ) → i < length order → Fine places order i → breaks_at i ≡ false
  is_fine i h w =
      let t = get_or order i 0 in
      let done = take i order in
      let fit : i ≤ length order = omega arith in
      ap₂ ◌||◌ (ap not (lt-ltb t (targets places) w.within))
      (ap₂ ◌||◌
      (⊎_elim (λ again. let (k, l, e) = in_take order i fit t again in absurd (w.fresh k l e)) (λ new. new) (true_or_false (is_in t done)))
      (ready_not-early done t places (λ j l s n. let (k, g, e) = w.after j l s n in take_in order i fit (j / block_words) k g e)))

  -- ## All positions
  keeps_fine : Keeps places order → AllFine places order
  keeps_fine g i h = record { within = g.within i h; fresh = λ k l. g.once k i l h; after = λ j l. g.after i j h l }

  keeps_length : Keeps places order → length order ≡ targets places
  keeps_length g = in_all (targets places) order g.within g.once (λ t h. let (i, l, e) = g.every t h in at_in t order i l e)

  fine_keeps : AllFine places order → length order ≡ targets places → Keeps places order
  fine_keeps w e =
      let within : (i : ℕ) → i < length order → get_or order i 0 < targets places = λ i h. (w i h).within in
      let once : (i k : ℕ) → i < k → k < length order → get_or order i 0 ≢ get_or order k 0 = λ i k l h. (w k h).fresh i l in
      record {
        within = within;
        once = once;
        every = λ t h. in_at t order (all_in (targets places) order within once e t h);
        after = λ i j h. (w i h).after j;
      }

  -- ## The judge, as a loop has it
  -- where it refuses an order of which no position breaks
  abbrev pub length_break : Bool → List ℕ
  length_break same = cond same [] (min (length order) (targets places) ∷ [])

  -- no position breaks
  pub judge_end : ((k : ℕ) → k < length order → breaks_at k ≡ false) → order_breaks places order ≡ length_break (eqb (length order) (targets places))
  unfolding order_breaks
  judge_end a = rw (places_none breaks_at 0 (length order) (λ k h. rw zero-add (a k h)))

  -- position i is the first that breaks
  pub judge_stop : (i : ℕ) → Lowest breaks_at (length order) i → (rest : List ℕ) × (order_breaks places order ≡ i ∷ rest)
  unfolding order_breaks
  judge_stop i w =
      let (rest, e) = is_lowest breaks_at (length order) i w in
      let end = length_break (eqb (length order) (targets places)) in
      (rest ++ end, ap (λ (l : List ℕ). l ++ end) e)

  -- ## The judge
  -- what keeps the dependences it accepts
  pub keeps_judge : Keeps places order → order_breaks places order ≡ []
  keeps_judge g = judge_end (λ k h. is_fine k h (keeps_fine g k h)) ∙ rw (eq-eqb (length order) (targets places) (keeps_length g))

  -- and where an order breaks, there it refuses it
  pub judge-exact : (i : ℕ) → Breaks places order i → (rest : List ℕ) × (order_breaks places order ≡ i ∷ rest)
  judge-exact i w =
      ⊎_elim
      (λ (h, bad).
      judge_stop i
      (record {
        within = h;
        passes = ⊎_elim (λ e. e) (λ e. absurd (bad (fine_is i h e))) (true_or_false (breaks_at i));
        before = λ k l. is_fine k (omega arith) (w.before k l);
      }))
      (λ (fine, differ, e). ([], judge_end (λ k h. is_fine k h (fine k h)) ∙ rw (ne_eqb (length order) (targets places) differ, e)))
      w.here

  -- what its answer means
  abbrev Verdict : List ℕ → Type 0
  Verdict [] = Keeps places order
  Verdict (i ∷ rest) = Breaks places order i

  verdict_of_lem : (found : List ℕ) → places_from breaks_at 0 (length order) ≡ found → (same : Bool) → eqb (length order) (targets places) ≡ same
      → Verdict (found ++ length_break same)
  verdict_of_lem [] e true q = fine_keeps (λ i h. fine_is i h (none_passes breaks_at (length order) e i h)) (eqb-true (length order) (targets places) q)
  verdict_of_lem [] e false q =
      let fine : AllFine places order = λ i h. fine_is i h (none_passes breaks_at (length order) e i h) in
      record { before = λ k l. fine k (omega arith); here = inr (fine, eqb-false (length order) (targets places) q, refl) }
  verdict_of_lem (i ∷ rest) e same q =
      let w = lowest_is breaks_at (length order) i rest e in
      record {
        before = λ k l. fine_is k (omega (arith, w.within)) (w.before k l);
        here = inl (w.within, λ f. clash (breaks_at i) w.passes (is_fine i w.within f));
      }

  judged : Verdict (order_breaks places order)
  unfolding order_breaks
  judged = verdict_of_lem (places_from breaks_at 0 (length order)) refl (eqb (length order) (targets places)) refl

  -- what it accepts keeps the dependences
  pub judge_keeps : order_breaks places order ≡ [] → Keeps places order
  judge_keeps e = subst Verdict e judged

  -- and what it refuses breaks there
  pub judge-refused : (i : ℕ) (rest : List ℕ) → order_breaks places order ≡ i ∷ rest → Breaks places order i
  judge-refused i rest e = subst Verdict e judged

-- ## Accepted orders
-- two accepted orders leave the same heap
pub good_agree : (places order order' heap : List ℕ) → Up places → order_breaks places order ≡ [] → order_breaks places order' ≡ [] → length places ≤ length heap → run places order heap ≡ run places order' heap
good_agree places order order' heap u e e' fit = run_agree places order order' heap u (judge_keeps places order e) (judge_keeps places order' e') fit

pub ascending_keeps : (places : List ℕ) → Up places → Keeps places (up_to (targets places))
ascending_keeps places u =
    let n : ℕ = targets places in
    let len : length (up_to n) ≡ n = length-up_to n in
    record {
      within = λ i h. omega (arith, get_or-up_to n i (omega arith));
      once = λ i k l h e. omega (arith, get_or-up_to n i (omega arith), get_or-up_to n k (omega arith));
      every = λ t h. (t, omega arith, get_or-up_to n t h);
      after = λ i j h l s ne.
          let q : get_or (up_to n) i 0 ≡ i = get_or-up_to n i (omega arith) in
          let g : j / block_words < i = omega (arith, u.up j l) in
          (j / block_words, g, get_or-up_to n (j / block_words) (omega arith));
    }

-- ascending order is always accepted
pub ascending_accepted : (places : List ℕ) → Up places → order_breaks places (up_to (targets places)) ≡ []
ascending_accepted places u = keeps_judge places (up_to (targets places)) (ascending_keeps places u)

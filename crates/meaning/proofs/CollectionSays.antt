-- What a collection's answer says: two accepted orders leave the same, once 1 to 5 pass just the orders that keep the dependences are accepted,
-- and a success taken apart. Assumes nothing.
use mathlib.Core.Path.{◌≡◌, refl, sym, ap, ◌∙◌, subst}
use mathlib.Core.Bool.{Bool, true, ◌&&◌}
use mathlib.Core.Logic.{◌⊎◌, inl, inr}
use mathlib.Core.List.{List, [], ◌∷◌}
use Prim.Native.Nat.{ℕ, ◌≤◌}
use native.Mathlib.Omega.{arith}
use lib.ListN.{length}
use lib.Dec.{leb}
use borrow.Author.Tests.{leb-true, eqb-true}
use Rattle.meaning.specs.Limits.{heap_words, order_entries, blocks_of}
use Rattle.meaning.specs.Answers.{Answer, gives, refused}
use Rattle.meaning.specs.Places.{places_from, below, marked, bitmap}
use Rattle.meaning.specs.Objects.{Object, all, parse}
use Rattle.meaning.specs.Slide.{kept, live_at}
use Rattle.meaning.specs.Blocks.{order_breaks, Keeps}
use Rattle.meaning.specs.Collect.{sizes_fit, tables_fit, checked, Totals, After, offset_table, ordered, collected, collect}
use Rattle.meaning.proofs.Deciding.{and_both}
use Rattle.meaning.proofs.ChecksPassed.{Sound, checked-sound}
use Rattle.meaning.proofs.OrderJudged.{Breaks, keeps_judge, judge_keeps, judge-exact, judge-refused}

-- the new top L, the number of kept objects, and the target blocks T
abbrev pub totals : ℕ → List ℕ → List Object → Totals
totals top marks os =
    let L = below (live_at (marked marks) os) top in
    record { top = L; objects = length (kept (marked marks) 0 os); blocks = blocks_of L }

-- 1 as facts
pub record Fits (heap : List ℕ) (top : ℕ) (live offsets : List ℕ) : Type 0 where
  pub small : length heap ≤ heap_words
  pub room : top ≤ length heap
  pub live_long : length live ≡ blocks_of (length heap)
  pub offsets_long : length offsets ≡ blocks_of (length heap)

module _ (heap : List ℕ) (top : ℕ) (roots marks live offsets : List ℕ) where
  -- what is left once the tables are filled and the order is judged
  abbrev judged_order : List Object → List ℕ → After
  judged_order os = let t = live_at (marked marks) os in ordered heap top roots marks os (bitmap t (length live)) (offset_table t (length offsets))

  -- a success: 1 to 5 pass, the order keeps the dependences, and answer and buffers are those of a collection
  pub record Success (order : List ℕ) (t : Totals) (os : List Object) : Type 0 where
    pub fits : Fits heap top live offsets
    pub sound : Sound heap top roots marks os
    pub keeps : Keeps (places_from (live_at (marked marks) os) 0 top) order
    pub totals-are : t ≡ totals top marks os
    pub leaves : collect heap top roots marks order live offsets ≡ judged_order os []

  module _ (order : List ℕ) where
    abbrev after : After
    after = collect heap top roots marks order live offsets

    abbrev fit : Bool
    fit = sizes_fit heap top roots marks && tables_fit heap order live offsets

    fits-are : fit ≡ true → Fits heap top live offsets
    fits-are e =
        let (sizes, tables) = and_both (sizes_fit heap top roots marks) (tables_fit heap order live offsets) e in
        let (small, rest) = and_both _ _ sizes in
        let (room, _) = and_both _ _ rest in
        let (_, entries) = and_both (leb (length order) order_entries) _ tables in
        let (lives, offs) = and_both _ _ entries in
        record { small = leb-true _ _ small; room = leb-true _ _ room; live_long = eqb-true _ _ lives; offsets_long = eqb-true _ _ offs }

    -- ## Once 1 to 5 pass
    module _ (os : List Object) (passes : checked heap top roots marks fit ≡ gives os) where
      abbrev places : List ℕ
      places = places_from (live_at (marked marks) os) 0 top

      judged-order : after ≡ judged_order os (order_breaks places order)
      unfolding collect
      judged-order = ap (collected heap top roots marks order live offsets) passes

      -- an order that keeps the dependences is accepted
      pub order-accepted : Keeps places order → after.answer ≡ gives (totals top marks os)
      order-accepted k = ap (λ (a : After). a.answer) (judged-order ∙ ap (judged_order os) (keeps_judge places order k))

      -- any other is refused by 6 where it breaks, and only the tables are filled
      pub order-refused : (i : ℕ) → Breaks places order i
          → after
          ≡ record {
            answer = refused 6 i;
            heap = heap;
            roots = roots;
            marks = marks;
            live = bitmap (live_at (marked marks) os) (length live);
            offsets = offset_table (live_at (marked marks) os) (length offsets);
          }
      order-refused i b = let (rest, e) = judge-exact places order i b in judged-order ∙ ap (judged_order os) e

      -- and an order does the one or the other
      pub keeps-or-breaks : Keeps places order ⊎ ((i : ℕ) × Breaks places order i)
      keeps-or-breaks = go (order_breaks places order) refl
        where
          go : (found : List ℕ) → order_breaks places order ≡ found → Keeps places order ⊎ ((i : ℕ) × Breaks places order i)
          go [] q = inl (judge_keeps places order q)
          go (i ∷ rest) q = inr (i, judge-refused places order i rest q)

    -- ## A success taken apart
    module _ (t : Totals) (done : after.answer ≡ gives t) where
      passed : (os : List Object) → checked heap top roots marks fit ≡ gives os → Success order t os
      passed os q =
          let (fit_is, s) = checked-sound heap top roots marks os fit q in
          go (order_breaks (places os q) order) refl (fits-are fit_is) s
        where
          go : (found : List ℕ) → order_breaks (places os q) order ≡ found → Fits heap top live offsets → Sound heap top roots marks os → Success order t os
          go [] e f s =
              let leaves : after ≡ judged_order os [] = judged-order os q ∙ ap (judged_order os) e in
              record { fits = f; sound = s; keeps = judge_keeps (places os q) order e; totals-are = cc (done, ap (λ (a : After). a.answer) leaves); leaves = leaves }
          go (i ∷ rest) e f s = absurd (let z : ◌≡◌ {A = ℕ} 0 1 = cc (done, ap (λ (a : After). a.answer) (judged-order os q ∙ ap (judged_order os) e)) in omega arith)

      found : (os : List Object) × Success order t os
      unfolding collect
      found = go (checked heap top roots marks fit) refl done
        where
          go : (a : Answer (List Object)) → checked heap top roots marks fit ≡ a → (collected heap top roots marks order live offsets a).answer ≡ gives t → (os : List Object) × Success order t os
          go (refused n p) q e = absurd (let z : ◌≡◌ {A = ℕ} 0 1 = cc in omega arith)
          go (gives os) q e = (os, passed os q)

      -- the objects are those that the heap parses to
      pub success : (os : List Object) → parse heap top ≡ all os → Success order t os
      success os parsed = let (xs, s) = found in let same : xs ≡ os = cc (s.sound.parsed, parsed) in subst (Success order t) same s

  -- ## Two accepted orders
  pub orders_agree : (o o' : List ℕ) (t t' : Totals) → (collect heap top roots marks o live offsets).answer ≡ gives t
      → (collect heap top roots marks o' live offsets).answer ≡ gives t'
      → collect heap top roots marks o live offsets ≡ collect heap top roots marks o' live offsets
  orders_agree o o' t t' e e' =
      let (os, s) = found o t e in
      s.leaves ∙ sym (success o' t' e' os s.sound.parsed).leaves

-- A collect on the words answers as it does on the simple list, and both stand for the same store afterwards. Assumes nothing.
use mathlib.Core.Path.{◌≡◌, refl, sym, ap, ap₂, ◌∙◌}
use mathlib.Core.Bool.{Bool, true, false, ◌&&◌, cond}
use mathlib.Core.List.{List, [], ◌∷◌, ◌++◌}
use Prim.Native.Nat.{ℕ, suc, ◌+◌, ◌-◌, ◌≤◌}
use native.Mathlib.Omega.{arith}
use lib.ListN.{length, get_or, drop, replicate, length-append, length-map, length-drop, length-replicate, take-append-drop}
use lib.Seq.{take_at}
use lib.Dec.{leb, eqb}
use Rattle.meaning.specs.Limits.{heap_words, root_slots, blocks_of, payload_words}
use Rattle.meaning.specs.Answers.{Answer, gives, refused, refuse}
use Rattle.meaning.specs.Places.{places_from, below, marked, bitmap}
use Rattle.meaning.specs.Objects.{Object, encode, all, parse}
use Rattle.meaning.specs.Slide.{slide, live_at}
use Rattle.meaning.specs.Blocks.{order_breaks}
use Rattle.meaning.specs.Collect.{sizes_fit, tables_fit, bad_roots, judged, checked, offset_table, ordered, collected, collect}
use Rattle.meaning.specs.Calls.{Brought, collected as says-collected, Did, need, fits, tick}
use Rattle.meaning.specs.Store.{Mem, taken, collects}
use Rattle.meaning.specs.SimpleList.{Born, rec, raw, gone, Simple, words, in_use, place, the, no_value, view_list, says_list}
use Rattle.meaning.specs.ListCollect.{lost, lost_from, lost_in, keep, keep_in, standing, brought_fits, judged_list, collects_list}
use Rattle.meaning.proofs.Deciding.{and_both}
use Rattle.meaning.proofs.Counting.{places_same}
use Rattle.meaning.proofs.ParseEncode.{Legal, parse-encode}
use Rattle.meaning.proofs.Births.{value_word, list_words, objects_of, list_encode, length-list_words}
use Rattle.meaning.proofs.SameStore.{Same, Both, length_same, fits-small}
use Rattle.meaning.proofs.ListJudged.{strays_same, bad_roots_same, bad_fields_same, live_same, kept-standing, live_words}
use Rattle.meaning.proofs.ListKept.{lost_none, counts_left, good_left, fields_left, slots_left, slid_words}

legal-objects : (f : ℕ → ℕ) (os : List Born) → ((i : ℕ) → words (the os i) ≤ suc payload_words) → Legal (objects_of f os)
legal-objects f [] c = tt
legal-objects f (rec vs ∷ os) c = (let l = length-map vs (value_word f) in let h = c 0 in omega arith, legal-objects f os (λ i. c (suc i)))
legal-objects f (raw ws ∷ os) c = (let h = c 0 in omega arith, legal-objects f os (λ i. c (suc i)))
legal-objects f (gone n ∷ os) c = legal-objects f os (λ i. c (suc i))

keep-few : (b : Bool) (o : Born) → words (keep b o) ≤ words o
keep-few true o = omega arith
keep-few false (rec vs) = omega arith
keep-few false (raw ws) = omega arith
keep-few false (gone n) = omega arith

left-few : (m : ℕ → Bool) (p : ℕ) (os : List Born) → in_use (keep_in m p os) ≤ in_use os
left-few m p [] = omega arith
left-few m p (o ∷ os) = let h = keep-few (m p) o in let t = left-few m (p + words o) os in omega arith

regroup : (a b c m t : Bool) → (a && (b && (c && m))) && t ≡ (a && (b && c)) && (m && t)
regroup true true true m t = refl
regroup true true false m t = refl
regroup true false c m t = refl
regroup false b c m t = refl

module _ {c : Mem} {a : Simple} (r : Same c a) (b : Brought) where
  parsed : parse c.heap c.store.top ≡ all (objects_of (place a.objects) a.objects)
  parsed =
      let f = place a.objects in
      let words_are = list_encode f a.objects in
      ap₂ parse (sym (take-append-drop c.store.top c.heap) ∙ ap (λ (l : List ℕ). l ++ drop c.store.top c.heap) (r.below ∙ words_are))
      (r.at_top ∙ (sym (length-list_words f a.objects) ∙ ap length words_are))
      ∙ parse-encode (objects_of f a.objects) (drop c.store.top c.heap) (legal-objects f a.objects r.counts)

  -- what the words answer once their objects are judged, and once their order is
  abbrev on_checked : Answer (List Object) → Answer (Did Mem)
  on_checked x =
      let after = collected c.heap c.store.top c.slots b.marks b.order b.live b.offsets x in
      taken c after after.answer

  abbrev on_order : List ℕ → Answer (Did Mem)
  on_order is =
      let o = objects_of (place a.objects) a.objects in
      let t = live_at (marked b.marks) o in
      let after = ordered c.heap c.store.top c.slots b.marks o (bitmap t (length b.live)) (offset_table t (length b.offsets)) is in
      taken c after after.answer

  refuse_same : (n : ℕ) (xs ys : List ℕ) (x : Answer (List Object)) (y : Answer (Did Simple)) → xs ≡ ys → (ys ≡ [] → Both c a (on_checked x) y)
      → Both c a (on_checked (refuse n xs x)) (refuse n ys y)
  refuse_same n xs [] x y e k = rw e (k refl)
  refuse_same n xs (p ∷ ps) x y e k = rw e (record { rel = r; same = refl })

  order_same : (xs ys : List ℕ) (y : Answer (Did Simple)) → xs ≡ ys → (ys ≡ [] → Both c a (on_order []) y) → Both c a (on_order xs) (refuse 6 ys y)
  order_same xs [] y e k = rw e (k refl)
  order_same xs (p ∷ ps) y e k = rw e (record { rel = r; same = refl })

  fit_same : sizes_fit c.heap c.store.top c.slots b.marks && tables_fit c.heap b.order b.live b.offsets
      ≡ fits (view_list a) && brought_fits a.room b
  fit_same =
      rw (r.room, r.at_top, length_same r)
      (regroup (leb a.room heap_words) (leb (in_use a.objects) a.room) (leb (length a.slots) root_slots) (eqb (length b.marks) (blocks_of a.room)) _)

  module _ (small : in_use a.objects ≤ heap_words) (no4 : lost_from (marked b.marks) a.objects 0 a.slots ≡ [])
      (no5 : lost_in (marked b.marks) a.objects 0 a.objects ≡ [])
    where
      abbrev left : List Born
      left = keep_in (marked b.marks) 0 a.objects

      live-are : below (live_at (marked b.marks) (objects_of (place a.objects) a.objects)) c.store.top ≡ in_use left
      live-are = rw r.at_top (live_words (place a.objects) (marked b.marks) a.objects)

      words_are : encode (slide (marked b.marks) (objects_of (place a.objects) a.objects)) ≡ list_words (place left) left
      words_are = slid_words (marked b.marks) a.objects small r.fields

      none-lost : (s : ℕ) → lost (marked b.marks) a.objects (get_or a.slots s no_value) ≡ false
      none-lost = lost_none (marked b.marks) a.objects 0 a.slots no4

      -- three parts: the slid objects, zeros, and the words from the old top on
      length_three : (ws : List ℕ) (L : ℕ) → length ws ≡ L → L ≤ c.store.top → length (ws ++ (replicate (c.store.top - L) 0 ++ drop c.store.top c.heap)) ≡ a.room
      length_three ws L e h =
          let m = r.room in
          let f = r.fits in
          let t = r.at_top in
          simp (length-append, length-replicate, length-drop) (omega arith)

      slid-same : Both c a (on_order [])
          (gives (says_list a (says-collected (record { top = in_use left; objects = standing left; blocks = blocks_of (in_use left) })) left a.slots))
      slid-same =
          let few = left-few (marked b.marks) 0 a.objects in
          let t = r.at_top in
          let n = length-list_words (place left) left in
          record {
            rel =
                record {
                  room = rw (live-are, words_are) (length_three (list_words (place left) left) (in_use left) n (omega arith));
                  fits = let f = r.fits in omega arith;
                  at_top = live-are;
                  calls = ap tick r.calls;
                  below = rw (live-are, words_are) (take_at (list_words (place left) left) _ (in_use left) n);
                  slots = rw r.slots (slots_left (marked b.marks) a.objects a.slots small r.held);
                  counts = counts_left (marked b.marks) a.objects r.counts;
                  fields = fields_left (marked b.marks) a.objects r.fields no5;
                  held = λ s. good_left (marked b.marks) a.objects (get_or a.slots s no_value) (r.held s) (none-lost s);
                };
            same = rw (live-are, kept-standing (place a.objects) (marked b.marks) a.objects) refl;
          }

  judged_same : in_use a.objects ≤ heap_words
      → Both c a (on_checked (judged c.heap c.store.top c.slots b.marks (all (objects_of (place a.objects) a.objects)))) (judged_list a b)
  judged_same small =
      let m = marked b.marks in
      let o = a.objects in
      refuse_same 3 _ _ _ _ (strays_same (place o) o b.marks) λ _.
      refuse_same 4 _ _ _ _ (ap (λ (l : List ℕ). bad_roots l b.marks) r.slots ∙ bad_roots_same o b.marks a.slots small r.held) λ no4.
      refuse_same 5 _ _ _ _ (bad_fields_same o c.heap c.store.top b.marks r.below r.at_top small r.fields) λ no5.
      order_same _ _ _
      (ap (λ (l : List ℕ). order_breaks l b.order) (ap (places_from _ 0) r.at_top ∙ places_same _ _ 0 (in_use o) (λ k h. live_same (place o) m o (0 + k))))
      λ _. slid-same small no4 no5

  pub collects_same : Both c a (collects c b) (collects_list a b)
  unfolding collects collect checked collects_list
  collects_same = rw fit_same (go (fits (view_list a) && brought_fits a.room b) refl)
    where
      go : (fit : Bool) → fits (view_list a) && brought_fits a.room b ≡ fit
          → Both c a (on_checked (cond fit (judged c.heap c.store.top c.slots b.marks (parse c.heap c.store.top)) (refused 1 0)))
          (need fit 1 0 (judged_list a b))
      go true e = rw parsed (judged_same (fits-small r (and_both (fits (view_list a)) _ e).0))
      go false e = record { rel = r; same = refl }

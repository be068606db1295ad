-- What the phases of a collection leave, word by word, is what meaning's collection leaves. Assumes nothing.
use mathlib.Core.Path.{◌≡◌, refl, sym, ap, ◌∙◌}
use mathlib.Core.Bool.{Bool, true, false, ◌&&◌, cond}
use mathlib.Core.Logic.{⊎_elim}
use mathlib.Core.List.{List, [], ◌++◌, map}
use Prim.Native.Nat.{ℕ, ◌+◌, ◌-◌, ◌≤◌, ◌<◌}
use native.Mathlib.Omega.{arith}
use lib.ListN.{length, get_or, drop, replicate, length-append, length-drop, length-replicate, get_or-replicate, get_or-append}
use lib.Seq.{get_or-append-add, get_or-drop, get_or-take, ext_get_or}
use Rattle.meaning.specs.Values.{is_ref, place_of, ref_to}
use Rattle.meaning.specs.Places.{places_from, below, marked}
use Rattle.meaning.specs.Objects.{Object, encode}
use Rattle.meaning.specs.Slide.{new_place, fix_word, slide, live_at, field_at}
use Rattle.meaning.specs.Words.{live, field, fixed}
use Rattle.meaning.specs.Blocks.{run, order_breaks}
use Rattle.meaning.proofs.Deciding.{le_or_lt}
use Rattle.meaning.proofs.Counting.{below-few}
use Rattle.meaning.proofs.ByObjects.{fix_words_same}
use Rattle.meaning.proofs.Bridge.{field-agree, live_below, new-below, header_low}
use Rattle.meaning.proofs.SlidHeap.{slid-length}
use Rattle.meaning.proofs.ChecksPassed.{Sound, sound_refs}
use Rattle.meaning.proofs.BlockMoves.{run_good, run_length, slid_high}
use Rattle.meaning.proofs.OrderJudged.{judge_keeps}
use Rattle.meaning.proofs.TwoTargets.{up_places}
use Rattle.meaning.proofs.BlocksSlide.{blocks-slide}

-- ## Three parts: xs, zeros up to the top, and what the heap has from there on
module _ (xs heap : List ℕ) (top : ℕ) (low : length xs ≤ top) (room : top ≤ length heap) where
  abbrev three : List ℕ
  three = xs ++ (replicate (top - length xs) 0 ++ drop top heap)

  past : (ys zs : List ℕ) (i : ℕ) → length ys ≤ i → get_or (ys ++ zs) i 0 ≡ get_or zs (i - length ys) 0
  past ys zs i l = ap (λ (k : ℕ). get_or (ys ++ zs) k 0) (let e : i ≡ length ys + (i - length ys) = omega arith in e) ∙ get_or-append-add ys zs (i - length ys) 0

  zeros : length (replicate {A = ℕ} (top - length xs) 0) ≡ top - length xs
  zeros = length-replicate {A = ℕ} (top - length xs) 0

  middle : (i : ℕ) → length xs ≤ i → i < top → get_or three i 0 ≡ 0
  middle i l r =
      past xs _ i l
      ∙ get_or-append (replicate (top - length xs) 0) (drop top heap) 0 (i - length xs) (omega (arith, zeros))
      ∙ get_or-replicate (top - length xs) (i - length xs) 0 0 (omega arith)

  last : (i : ℕ) → top ≤ i → get_or three i 0 ≡ get_or heap i 0
  last i l =
      past xs _ i (omega arith) ∙ past (replicate (top - length xs) 0) (drop top heap) (i - length xs) (omega (arith, zeros))
      ∙ get_or-drop top heap _ 0 ∙ ap (λ (k : ℕ). get_or heap k 0) (let e : top + (i - length xs - length (replicate {A = ℕ} (top - length xs) 0)) ≡ i = omega (arith, zeros) in e)

  three_parts : (h : List ℕ) → length h ≡ length heap → ((j : ℕ) → j < length xs → get_or h j 0 ≡ get_or xs j 0)
      → ((q : ℕ) → length xs ≤ q → q < top → get_or h q 0 ≡ 0) → ((q : ℕ) → top ≤ q → get_or h q 0 ≡ get_or heap q 0) → h ≡ three
  three_parts h e a b c =
      ext_get_or 0 h three (e ∙ sym (simp (length-append, length-replicate, length-drop) (omega arith)))
      (λ i l.
      ⊎_elim
      (λ (g : length xs ≤ i). ⊎_elim (λ (u : top ≤ i). c i u ∙ sym (last i u)) (λ (u : i < top). b i g u ∙ sym (middle i g u)) (le_or_lt top i))
      (λ (g : i < length xs). a i g ∙ sym (get_or-append xs _ 0 i g))
      (le_or_lt (length xs) i))

-- the words after are the words before, with references at the places of refs sent on by f
pub record Fixed (refs : ℕ → Bool) (f : ℕ → ℕ) (before after : List ℕ) : Type 0 where
  pub long : length after ≡ length before
  pub word : (q : ℕ) → get_or after q 0 ≡ cond (refs q) (ref_to (f (place_of (get_or before q 0)))) (get_or before q 0)

-- zeros from a place to before another, all else as before
pub record Zeroed (from to : ℕ) (before after : List ℕ) : Type 0 where
  pub long : length after ≡ length before
  pub zero : (q : ℕ) → from ≤ q → q < to → get_or after q 0 ≡ 0
  pub below : (q : ℕ) → q < from → get_or after q 0 ≡ get_or before q 0
  pub above : (q : ℕ) → to ≤ q → get_or after q 0 ≡ get_or before q 0

module _ (heap : List ℕ) (top : ℕ) (roots marks : List ℕ) (os : List Object) (room : top ≤ length heap) (s : Sound heap top roots marks os) where
  abbrev m : ℕ → Bool
  m = marked marks

  abbrev live_words : ℕ
  live_words = below (live_at m os) top

  -- a place with a mark is a header, and its new place is what is live below it
  new_marked : (q : ℕ) → m q ≡ true → new_place m 0 os q ≡ below (live_at m os) q
  new_marked q e = new-below heap top os room s.parsed m q (s.at_headers q e)

  -- ## Roots
  pub roots_fixed : map (fix_word (below (live_at m os))) roots ≡ map (fix_word (new_place m 0 os)) roots
  roots_fixed = sym (fix_words_same m (new_place m 0 os) (below (live_at m os)) (λ q. m q ≡ true) new_marked roots s.roots_marked)

  -- ## Fields
  pub fields-fixed : (h : List ℕ) → Fixed (λ q. field_at m os q && is_ref (get_or heap q 0)) (below (live_at m os)) heap h → (q : ℕ) → q < top → get_or h q 0 ≡ fixed heap m q
  unfolding fixed
  fields-fixed h f q l =
      f.word q ∙ ap (λ (b : Bool). cond (b && is_ref w) (ref_to (below (live_at m os) (place_of w))) w) (field-agree heap top os room s.parsed m q l)
      ∙ go (live heap m q && field heap q) (field-agree heap top os room s.parsed m q l) (is_ref (get_or heap q 0)) refl
    where
      w : ℕ
      w = get_or heap q 0

      go : (a : Bool) → field_at m os q ≡ a → (b : Bool) → is_ref w ≡ b
          → cond (a && b) (ref_to (below (live_at m os) (place_of w))) w ≡ cond a (cond b (ref_to (below (live heap m) (place_of w))) w) w
      go true ea true eb =
          let h = s.at_headers (place_of w) (s.fields_marked q l ea eb) in
          ap ref_to (live_below heap top os room s.parsed m (place_of w) (omega (arith, header_low heap top os room s.parsed (place_of w) h)))
      go true ea false eb = refl
      go false ea b eb = refl

  -- ## The heap, once the fixed words are moved by blocks in an accepted order and the tail is zeroed
  pub heap-collected : (fixed_heap moved h order : List ℕ) → length fixed_heap ≡ length heap
      → ((q : ℕ) → q < top → get_or fixed_heap q 0 ≡ fixed heap m q) → ((q : ℕ) → top ≤ q → get_or fixed_heap q 0 ≡ get_or heap q 0)
      → order_breaks (places_from (live_at m os) 0 top) order ≡ [] → moved ≡ run (places_from (live_at m os) 0 top) order fixed_heap → Zeroed live_words top moved h
      → h ≡ encode (slide m os) ++ (replicate (top - live_words) 0 ++ drop top heap)
  unfolding below
  heap-collected fixed_heap moved h order long fixes above accepted is-run z =
      let places = places_from (live_at m os) 0 top in
      let few : length places ≤ top = below-few (live_at m os) top in
      let e : length (encode (slide m os)) ≡ length places = slid-length heap top os room s.parsed m in
      let same : length moved ≡ length heap = ap length is-run ∙ run_length places order fixed_heap ∙ long in
      let slides = blocks-slide heap top os room s.parsed m (sound_refs heap top roots marks os room s) fixed_heap order long fixes accepted in
      let good = run_good places order fixed_heap (up_places (live_at m os) top) (judge_keeps places order accepted) (omega arith) in
      three_parts (encode (slide m os)) heap top (omega arith) room h (z.long ∙ same)
      (λ j l. z.below j (omega arith) ∙ ap (λ (x : List ℕ). get_or x j 0) is-run ∙ sym (get_or-take (length places) (run places order fixed_heap) j 0 (omega arith)) ∙ ap (λ (x : List ℕ). get_or x j 0) slides)
      (λ q l r. z.zero q (omega arith) r)
      (λ q l. z.above q l ∙ ap (λ (x : List ℕ). get_or x q 0) (is-run ∙ good) ∙ slid_high places fixed_heap q (omega arith) ∙ above q l)
      ∙ ap (λ (n : ℕ). encode (slide m os) ++ (replicate (top - n) 0 ++ drop top heap)) e

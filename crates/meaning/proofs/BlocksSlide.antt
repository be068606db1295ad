-- Moving the fixed words by blocks, in any accepted order, leaves the slid objects: demand 2 in one theorem. Assumes nothing.
use mathlib.Core.Path.{◌≡◌, sym, ap, ◌∙◌}
use mathlib.Core.Bool.{Bool}
use mathlib.Core.List.{List, []}
use Prim.Native.Nat.{ℕ, ◌≤◌, ◌<◌}
use native.Mathlib.Omega.{arith}
use lib.ListN.{length, get_or, take}
use lib.Seq.{ext_get_or, length-take-le, get_or-take}
use Rattle.meaning.specs.Places.{places_from, below, src}
use Rattle.meaning.specs.Objects.{Object, encode, all, parse}
use Rattle.meaning.specs.Slide.{slide, live_at}
use Rattle.meaning.specs.Words.{live, fixed}
use Rattle.meaning.specs.Blocks.{run, order_breaks}
use Rattle.meaning.proofs.Counting.{below-few, src-within}
use Rattle.meaning.proofs.Bridge.{RefsFound, live-places}
use Rattle.meaning.proofs.SlidHeap.{slid-length, slid_word}
use Rattle.meaning.proofs.BlockMoves.{run_good, slid-low, run_length}
use Rattle.meaning.proofs.OrderJudged.{judge_keeps}
use Rattle.meaning.proofs.TwoTargets.{up_places}

module _ (heap : List ℕ) (top : ℕ) (os : List Object) (room : top ≤ length heap) (parsed : parse heap top ≡ all os) (m : ℕ → Bool) where
  -- `fixed_heap` has each word below the top fixed
  pub blocks-slide : RefsFound heap top os room parsed m → (fixed_heap order : List ℕ) → length fixed_heap ≡ length heap
      → ((q : ℕ) → q < top → get_or fixed_heap q 0 ≡ fixed heap m q) → order_breaks (places_from (live_at m os) 0 top) order ≡ []
      → take (below (live_at m os) top) (run (places_from (live_at m os) 0 top) order fixed_heap) ≡ encode (slide m os)
  unfolding below src
  blocks-slide found fixed_heap order long fixes accepted =
      let places = places_from (live_at m os) 0 top in
      let few : length places ≤ top = below-few (live_at m os) top in
      let moved = run places order fixed_heap in
      let e : length (take (length places) moved) ≡ length places = length-take-le (length places) moved (omega (arith, run_length places order fixed_heap)) in
      let same : length places ≡ below (live heap m) top = ap length (live-places heap top os room parsed m) in
      ext_get_or 0 (take (length places) moved) (encode (slide m os)) (e ∙ sym (slid-length heap top os room parsed m))
      (λ j h.
      let l : j < length places = omega arith in
      get_or-take (length places) moved j 0 l
      ∙ ap (λ (x : List ℕ). get_or x j 0) (run_good places order fixed_heap (up_places (live_at m os) top) (judge_keeps places order accepted) (omega arith))
      ∙ slid-low places fixed_heap j l
      ∙ fixes (get_or places j 0) (src-within (live_at m os) top j l)
      ∙ ap (λ (x : List ℕ). fixed heap m (get_or x j 0)) (live-places heap top os room parsed m)
      ∙ sym (slid_word heap top os room parsed m found j (omega arith)))

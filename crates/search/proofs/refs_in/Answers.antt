-- `search::refs_in` meets its contract. Assumes nothing.
use mathlib.Core.Path.{◌≡◌, ap, ◌∙◌}
use mathlib.Core.Bool.{Bool, cond, ◌&&◌}
use Prim.Native.Nat.{ℕ, ◌+◌, ◌*◌}
use Rattle.std.proofs.lemmas.List.Elements.{All-tail}
use Rattle.meaning.specs.Limits.{block_words}
use Rattle.meaning.specs.Places.{bit_set}
use Rattle.meaning.specs.Values.{is_ref}
use Rattle.meaning.proofs.Bitmaps.{bit_zero}
use Rattle.bits.specs.SetBits.{set_places}
use Rattle.bits.proofs.SetPlaces.{Turn, all_set, set_turn, set_end}
use Rattle.search.specs.Search.{InHeap, ref_at}
use Rattle.search.proofs.PassingBits.{gathered}
use Rattle.search.proofs.refs_in.Goals as goal
use Rattle.search.proofs.refs_in.Goals.{In-Some}

-- the loop goes over the set bits of the word
turn : (c : In-Some) → Turn (bit_set c.args.word) block_words c.loop-i.yielded c.in-Some.i
turn c = set_turn c.args.word (cc) _ _ c.loop-i.yielded_by _ _ c.in-Some.ensures.steps

pub loop-i-init : goal.loop-i-init
loop-i-init c = let start : c.into_iter-i-iterator.result ≡ set_places c.args.word = cc in
    record { in_heap = rw start (all_set (λ (i : ℕ). InHeap c.args.heap.now (block_words * c.args.b + i)) _ c.requires); done = λ i. bit_zero i }

pub overflow_shl-refs : goal.overflow_shl-refs
overflow_shl-refs c = (turn (goal.at.overflow_shl-refs c).In-Some).within

pub loop-i-preserved : goal.loop-i-preserved
loop-i-preserved c = record {
  in_heap = All-tail (λ (i : ℕ). InHeap c.args.heap.now (block_words * c.args.b + i)) c.in-Some.i _ (rw c.in-Some.ensures.steps at c.loop-i.invariant.in_heap);
  done =
      gathered block_words (λ (i : ℕ). ref_at c.args.heap.now (block_words * c.args.b + i)) _ _ _ _ (turn (goal.at.loop-i-preserved c).In-Some).within
      (c.ref_bit.ensures ∙ ap (λ (w : ℕ). cond (is_ref w) 1 0) c.from_bits.ensures) c.loop-i.invariant.done;
}

pub returns : goal.returns
returns c i = c.loop-i.invariant.done i ∙ ap (λ (b : Bool). b && ref_at c.args.heap.now (block_words * c.args.b + i)) (set_end c.args.word (cc) _ _ c.loop-i.yielded_by c.in-None.ensures.steps.0 c.ranges.word.fits i)

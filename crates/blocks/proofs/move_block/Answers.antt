-- `blocks::move_block` meets its contract. The step's live words before number j are moved, and the cursor stands before that one. Assumes nothing.
use mathlib.Core.Path.{◌≡◌}
use mathlib.Core.Bool.{true}
use Prim.Native.Nat.{◌+◌, ◌<◌}
use native.Mathlib.Omega.{arith}
use lib.Count.{count_trailing_zeros}
use lib.ListN.{length}
use Rattle.meaning.specs.Limits.{block_words}
use Rattle.meaning.specs.Places.{bit_set}
use Rattle.blocks.proofs.WordsMoved.{movable-few, Copied, moving_start, moving-within, moving-word, moving-bit, moving-run, moving_end}
use Rattle.blocks.proofs.move_block.Goals as goal
use Rattle.blocks.proofs.move_block.Goals.{After-run_length-k, Else-rest-eq0, Then-rest-eq0}

pub block_end-end-requires : goal.block_end-end-requires
block_end-end-requires c = (movable-few _ _ _ c.requires.0, c.requires.1)

pub loop-j-init : goal.loop-j-init
loop-j-init c = moving_start _ _ _ _ _ c.requires.1 c.requires.2

-- ## The word is used up
module _ (c : Then-rest-eq0) where
  more : c.loop-j.block + 1 < length c.args.live.now
  more = moving-within _ _ _ _ c.requires.0 _ _ _ _ (omega arith) c.loop-j.invariant c.if-rest-eq0.true

pub overflow_add-block : goal.overflow_add-block
overflow_add-block c = omega (arith, more (goal.at.overflow_add-block c).Then-rest-eq0)

pub offset_bounds-live-block : goal.offset_bounds-live-block
offset_bounds-live-block c = omega (arith, more (goal.at.offset_bounds-live-block c).Then-rest-eq0)

pub bounds-live-block : goal.bounds-live-block
bounds-live-block c = more (goal.at.bounds-live-block c).Then-rest-eq0

pub loop-j-smaller-then-rest-eq0 : goal.loop-j-smaller-then-rest-eq0
loop-j-smaller-then-rest-eq0 c = omega (arith, more (goal.at.loop-j-smaller-then-rest-eq0 c).Then-rest-eq0)

pub loop-j-preserved-then-rest-eq0 : goal.loop-j-preserved-then-rest-eq0
loop-j-preserved-then-rest-eq0 c =
    moving-word _ _ _ _ c.requires.0 _ _ _ _ (omega arith) c.loop-j.invariant (λ b. (c.type_inv.live b).fits) c.if-rest-eq0.true

-- ## The set bits in a row from its lowest on
module _ (c : Else-rest-eq0) where
  bit : (count_trailing_zeros block_words c.loop-j.rest < block_words) × (bit_set c.loop-j.rest (count_trailing_zeros block_words c.loop-j.rest) ≡ true)
  bit = moving-bit _ _ _ _ c.requires.0 _ _ _ _ (omega arith) c.loop-j.invariant c.if-rest-eq0.false

pub run_length-k-requires : goal.run_length-k-requires
run_length-k-requires c = let b = bit (goal.at.run_length-k-requires c).Else-rest-eq0 in (b.0, b.1, omega arith)

module _ (c : After-run_length-k) where
  copied : Copied c.args.live.now c.args.heap.now
      c.args.total c.args.t
      c.loop-j.heap c.loop-j.block c.loop-j.rest c.loop-j.j
      (count_trailing_zeros block_words c.loop-j.rest) c.run_length-k.result
  copied =
      moving-run _ _ _ _ c.requires.0 _ _ _ _ (omega arith) c.loop-j.invariant _ _ (omega arith) c.if-rest-eq0.false c.run_length-k.ensures

pub overflow_add-block-else-rest-eq0 : goal.overflow_add-block-else-rest-eq0
overflow_add-block-else-rest-eq0 c = let w = copied (goal.at.overflow_add-block-else-rest-eq0 c).After-run_length-k in omega arith

pub move_words-requires : goal.move_words-requires
move_words-requires c = let w = copied (goal.at.move_words-requires c).After-run_length-k in (c.run_length-k.ensures.some, w.source, w.up)

pub left_from-rest-requires : goal.left_from-rest-requires
left_from-rest-requires c = let w = copied (goal.at.left_from-rest-requires c).After-run_length-k in (omega (arith, c.run_length-k.ensures.some), w.within)

pub loop-j-preserved : goal.loop-j-preserved
loop-j-preserved c =
    let m = c.move_words in
    (copied (goal.at.loop-j-preserved c).After-run_length-k).next _ _ m.auto.heap m.ensures c.left_from-rest.ensures

pub returns : goal.returns
returns c =
    moving_end _ _ _ _ _ _ _ _ (omega arith) c.requires.0.all c.loop-j.invariant

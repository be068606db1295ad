-- `blocks::move_block` meets its contract. The step's live words before number j are moved, and the cursor stands before that one. Assumes nothing.
use Prim.Native.Nat.{◌+◌, ◌-◌}
use lib.ListN.{length}
use Rattle.blocks.proofs.WordsMoved.{Moving}
use Rattle.blocks.proofs.move_block.Given as goal

abbrev pub invariant-loop-j : goal.invariant-loop-j
invariant-loop-j l = Moving l.live l.initial.heap l.total l.t l.heap l.block l.rest l.j

abbrev pub decreases-loop-j : goal.decreases-loop-j
decreases-loop-j l = (l.end - l.j) + (length l.live - l.block)

-- `blocks::seek` meets its contract. Live word number j is number `left` of those from word `block` on. Assumes nothing.
use Prim.Native.Nat.{◌-◌}
use lib.ListN.{length}
use Rattle.blocks.proofs.CursorMoves.{Seeking}
use Rattle.blocks.proofs.seek.Given as goal

abbrev pub invariant-loop-left : goal.invariant-loop-left
invariant-loop-left l = Seeking l.live l.j l.block l.left

abbrev pub decreases-loop-left : goal.decreases-loop-left
decreases-loop-left l = length l.live - l.block

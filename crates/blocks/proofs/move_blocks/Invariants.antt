-- `blocks::move_blocks` meets its contract. The steps at the first i positions are done. Assumes nothing.
use Rattle.blocks.proofs.StepsRun.{Running}
use Rattle.blocks.proofs.move_blocks.Given as goal

abbrev pub invariant-loop-t : goal.invariant-loop-t
invariant-loop-t l = Running l.live l.order l.initial.heap l.total l.heap l.at_hand l.t-index

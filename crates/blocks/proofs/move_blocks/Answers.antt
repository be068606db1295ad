-- `blocks::move_blocks` meets its contract. Assumes nothing.
use Rattle.blocks.proofs.StepsRun.{running_start, running_next}
use Rattle.blocks.proofs.move_blocks.Goals as goal

pub loop-t-init : goal.loop-t-init
loop-t-init c = running_start _ _ _ _

pub loop-t-preserved : goal.loop-t-preserved
loop-t-preserved c =
    let m = c.move_block-cursor in
    running_next _ _ _ _ _ _ _ _ _ c.loop-t-test.true c.loop-t.invariant m.ensures.0 m.ensures.1

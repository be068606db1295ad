-- `blocks::seek` meets its contract. Live word number j is number `left` of those from word `block` on. Assumes nothing.
use Rattle.blocks.proofs.CursorMoves.{seeking_start, seeking_next}
use Rattle.blocks.proofs.seek.Goals as goal

pub loop-left-init : goal.loop-left-init
loop-left-init c = seeking_start _ _ c.requires.some

pub loop-left-preserved : goal.loop-left-preserved
loop-left-preserved c =
    seeking_next _ _ _ _ _ c.requires.some c.ones-count.ensures c.if-left-count.false c.loop-left.invariant

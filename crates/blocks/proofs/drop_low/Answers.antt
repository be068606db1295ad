-- `blocks::drop_low` meets its contract. Assumes nothing.
use native.Mathlib.Omega.{arith}
use Rattle.blocks.proofs.DroppedBits.{dropped-start, dropped_next, dropped-some}
use Rattle.blocks.proofs.drop_low.Goals as goal

pub loop-init : goal.loop-init
loop-init c = dropped-start _ c.ranges.word.fits

pub overflow_sub-rest : goal.overflow_sub-rest
overflow_sub-rest c = omega (arith, dropped-some _ _ _ (omega arith) c.loop.invariant)

pub loop-preserved : goal.loop-preserved
loop-preserved c = (dropped_next _ _ _ (dropped-some _ _ _ (omega arith) c.loop.invariant) c.loop.invariant).next

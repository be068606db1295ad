-- `bits::set_range` meets its contract. The loop has marked the places from `from` to before `at`. Assumes nothing.
use Rattle.bits.proofs.Ranges.{gains_all}
use Rattle.bits.proofs.set_range.Goals as goal

pub returns : goal.returns
returns c = let l = c.loop-at in
    gains_all _ _ _ _ _ l.invariant.2 l.invariant.3 c.loop-at-test.false l.invariant.1 l.invariant.4

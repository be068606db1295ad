-- `Line::put_numbers` meets its contract: the first numbers are put. Assumes nothing.
use native.Mathlib.Omega.{arith}
use Rattle.text.proofs.Digits.{spaced_none, spaced_next}
use Rattle.text.proofs.Placing.{puts-none, puts-then, puts-within}
use Rattle.text.proofs.Line.put_numbers.Goals as goal

pub loop-n-init : goal.loop-n-init
loop-n-init c = rw spaced_none (puts-none _)

pub loop-n-preserved : goal.loop-n-preserved
loop-n-preserved c =
    let i = c.loop-n.n-index in
    rw (spaced_next c.args.numbers.now i (omega arith)) (puts-within (omega arith) (puts-then (puts-then c.loop-n.invariant c.put.ensures) c.put_number.ensures))

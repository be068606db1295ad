-- `runs::move_few` meets its contract. Assumes nothing.
use native.Mathlib.Omega.{arith}
use Rattle.runs.proofs.CopiedRuns.{landed_few}
use Rattle.runs.proofs.move_few.Goals as goal

pub returns : goal.returns
returns c = landed_few c.args.heap.now c.args.from c.args.to c.args.count c.requires.0 c.requires.1 c.requires.3 (omega arith)

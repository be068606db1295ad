-- `runs::move_many` meets its contract. The first i words are copied, four by four. Assumes nothing.
use Prim.Native.Nat.{◌≤◌}
use Rattle.runs.proofs.CopiedRuns.{Landed}
use Rattle.runs.proofs.move_many.Given as goal

abbrev pub invariant-loop-i : goal.invariant-loop-i
invariant-loop-i l = (l.i ≤ l.count) × Landed l.initial.heap l.from l.to l.i l.heap

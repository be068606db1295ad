-- `orders::judge` meets its contract. No position before i breaks, and the table has the steps done. Assumes nothing.
use Rattle.orders.proofs.Judging.{Judging}
use Rattle.orders.proofs.judge.Given as goal

abbrev pub invariant-loop-i : goal.invariant-loop-i
invariant-loop-i l = Judging l.offsets l.total l.order l.done l.i

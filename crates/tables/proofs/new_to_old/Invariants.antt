-- `tables::new_to_old` meets its contract. Assumes nothing.
use Rattle.tables.proofs.Searching.{Searching}
use Rattle.tables.proofs.new_to_old.Given as goal

abbrev pub invariant-loop-b : goal.invariant-loop-b
invariant-loop-b l = Searching l.live l.initial.left l.left l.b

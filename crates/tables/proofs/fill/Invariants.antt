-- `tables::fill` meets its contract. Assumes nothing.
use lib.ListN.{length}
use Rattle.tables.proofs.Filling.{Filling}
use Rattle.tables.proofs.fill.Given as goal

abbrev pub invariant-loop-b : goal.invariant-loop-b
invariant-loop-b l = Filling l.words (length l.initial.live) l.live l.offsets l.sum l.b

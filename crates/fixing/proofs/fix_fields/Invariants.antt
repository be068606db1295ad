-- `fixing::fix_fields` meets its contract: the references of the blocks so far are sent on. Assumes nothing.
use Rattle.meaning.specs.Places.{below, marked}
use Rattle.meaning.proofs.CollectedHeap.{Fixed}
use Rattle.fixing.proofs.SentOn.{in_blocks}
use Rattle.fixing.proofs.fix_fields.Given as goal

abbrev pub invariant-loop-b : goal.invariant-loop-b
invariant-loop-b l = Fixed (in_blocks l.refs l.b) (below (marked l.tables.live.now)) l.initial.heap l.heap

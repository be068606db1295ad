-- `fixing::fix_block` meets its contract: the references at the bits so far are sent on. Assumes nothing.
use Rattle.std.proofs.Common.{ℕ, ◌+◌, ◌*◌, ◌<◌, length}
use Rattle.std.specs.List.{All}
use Rattle.meaning.specs.Limits.{block_words}
use Rattle.meaning.specs.Places.{below, marked}
use Rattle.meaning.proofs.CollectedHeap.{Fixed}
use Rattle.fixing.proofs.SentOn.{listed}
use Rattle.fixing.proofs.fix_block.Given as goal

abbrev pub invariant-loop-i : goal.invariant-loop-i
invariant-loop-i l = record {
  in_heap : All (λ (i : ℕ). block_words * l.b + i < length l.heap) l.i-iterator;
  sent : Fixed (listed l.b l.yielded) (below (marked l.tables.live.now)) l.initial.heap l.heap;
}

-- `bits::next_set` meets its contract. The loop has found no marked place from p to before block b. Assumes nothing.
use Prim.Native.Nat.{◌*◌}
use Rattle.meaning.specs.Limits.{block_words}
use Rattle.bits.proofs.NextSet.{Clear}
use Rattle.bits.proofs.next_set.Given as goal

abbrev pub invariant-loop-b : goal.invariant-loop-b
invariant-loop-b l = Clear l.map l.p (block_words * l.b)

-- `search::first_stray` meets its contract. The loop has found no stray mark below block b. Assumes nothing.
use Prim.Native.Nat.{◌*◌}
use Rattle.meaning.specs.Limits.{block_words}
use Rattle.search.specs.Search.{stray}
use Rattle.search.proofs.FirstPlace.{NoneBelow}
use Rattle.search.proofs.first_stray.Given as goal

abbrev pub invariant-loop-b : goal.invariant-loop-b
invariant-loop-b l = NoneBelow (stray l.marks l.headers) (block_words * l.b)

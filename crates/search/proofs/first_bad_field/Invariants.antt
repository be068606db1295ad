-- `search::first_bad_field` meets its contract. The loop has found no bad field below the block. Assumes nothing.
use Prim.Native.Nat.{◌*◌}
use Rattle.meaning.specs.Limits.{block_words}
use Rattle.search.specs.Search.{bad_field}
use Rattle.search.proofs.FirstPlace.{NoneBelow}
use Rattle.search.proofs.first_bad_field.Given as goal

abbrev pub invariant-loop-block : goal.invariant-loop-block
invariant-loop-block l = NoneBelow (bad_field l.heap l.marks l.refs) (block_words * l.block)

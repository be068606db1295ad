-- `finish` meets its contract: marks are no more than the bits of the bitmap. Assumes nothing.
use native.Mathlib.Omega.{arith}
use Prim.Native.Nat.{◌*◌}
use lib.ListN.{length}
use Rattle.meaning.specs.Limits.{block_words}
use Rattle.meaning.specs.Places.{marked}
use Rattle.meaning.proofs.Counting.{below-few}
use Rattle.compactor.proofs.finish.Goals as goal

pub overflow_cast-result-2 : goal.overflow_cast-result-2
overflow_cast-result-2 c =
    record { fits = omega (arith, c.count_below-objects.ensures, below-few (marked c.args.marks.now) (block_words * length c.args.marks.now), c.requires.few) }

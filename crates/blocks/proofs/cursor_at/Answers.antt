-- `blocks::cursor_at` meets its contract. Assumes nothing.
use Prim.Native.Nat.{◌*◌}
use native.Mathlib.Omega.{arith}
use lib.ListN.{length}
use Rattle.meaning.specs.Limits.{block_words}
use Rattle.meaning.specs.Places.{marked}
use Rattle.meaning.proofs.Counting.{below-few}
use Rattle.blocks.proofs.cursor_at.Goals as goal

pub overflow_mul-t : goal.overflow_mul-t
overflow_mul-t c = let live = c.args.live.now in
    omega (arith, below-few (marked live) (block_words * length live))

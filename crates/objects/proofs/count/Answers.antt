-- `count` meets its contract: each count is within 32 bits. Assumes nothing.
use native.Mathlib.Omega.{arith}
use Prim.Native.Nat.{◌*◌, ◌≤◌}
use lib.ListN.{length}
use Rattle.meaning.specs.Limits.{block_words, table_entries}
use Rattle.meaning.specs.Places.{marked}
use Rattle.meaning.proofs.Counting.{below-few}
use Rattle.objects.proofs.count.Goals as goal

pub overflow_cast-result : goal.overflow_cast-result
overflow_cast-result c = record { fits = omega (arith, c.count_below.ensures, below-few (marked c.args.words.now) (block_words * table_entries)) }

pub overflow_cast-result-2 : goal.overflow_cast-result-2
overflow_cast-result-2 c =
    let marks = c.args.marks.now in
    let few : length marks ≤ table_entries = c.requires in
    record { fits = omega (arith, c.count_below-2.ensures, below-few (marked marks) (block_words * length marks)) }

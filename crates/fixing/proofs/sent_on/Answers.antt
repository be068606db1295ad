-- `fixing::sent_on` meets its contract: the new place is no higher, so it has a word. Assumes nothing.
use Rattle.std.proofs.Common.{arith}
use Rattle.std.proofs.lemmas.Bool.Decides.{nat_tests}
use Rattle.meaning.specs.Places.{marked}
use Rattle.meaning.proofs.Counting.{below-few}
use Rattle.fixing.proofs.sent_on.Goals as goal

pub reference-requires : goal.reference-requires
reference-requires c = grind (arith, nat_tests, below-few (marked c.args.tables.live.now) c.number-target.result)

-- `Tables::new_place` meets its contract: an exact entry counts the live words below its block. Assumes nothing.
use native.Mathlib.Omega.{arith}
use Rattle.meaning.specs.Places.{marked}
use Rattle.meaning.proofs.Counting.{below-few}
use Rattle.meaning.proofs.LookupsInverse.{new_place_lem}
use Rattle.tables.proofs.Tables.new_place.Goals as goal

pub overflow_add-result : goal.overflow_add-result
overflow_add-result c = let a = c.args.self in
    omega (arith, new_place_lem _ _ a.exact c.args.p c.requires, below-few (marked a.live.now) c.args.p)

pub returns : goal.returns
returns c = omega (arith, new_place_lem _ _ c.args.self.exact c.args.p c.requires)

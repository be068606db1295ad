-- `tables::fill` meets its contract. Assumes nothing.
use native.Mathlib.Omega.{arith}
use mathlib.Core.Path.{◌≡◌, refl}
use Prim.Native.Nat.{◌*◌}
use lib.ListN.{length}
use Rattle.meaning.specs.Limits.{block_words}
use Rattle.meaning.specs.Places.{marked}
use Rattle.meaning.proofs.Counting.{below-few}
use Rattle.tables.proofs.Filling.{filling-start, filling-next, filling-end}
use Rattle.tables.proofs.fill.Goals as goal

pub loop-b-init : goal.loop-b-init
loop-b-init c = filling-start _ _ c.args.live.now c.args.offsets.now refl c.requires.1

pub overflow_cast-offsets : goal.overflow_cast-offsets
overflow_cast-offsets c = omega (arith, below-few (marked c.args.words.now) (block_words * c.loop-b.b))

pub overflow_add-sum : goal.overflow_add-sum
overflow_add-sum c = omega (arith, below-few (marked c.args.words.now) (block_words * c.loop-b.b))

pub loop-b-preserved : goal.loop-b-preserved
loop-b-preserved c = filling-next _ _ _ _ _ _ _ (omega arith) (c.fits-words c.loop-b.b) c.ones.ensures c.loop-b.invariant

pub returns : goal.returns
returns c = let e : c.loop-b.b ≡ length c.args.live.now = omega arith in filling-end _ _ _ _ _ (rw e at c.loop-b.invariant)

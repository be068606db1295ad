-- `settle` meets its contract: the tables are filled, and then the judge says. Assumes nothing.
use native.Mathlib.Omega.{arith}
use mathlib.Core.Path.{sym, ◌∙◌}
use Prim.Native.Nat.{◌*◌}
use lib.ListN.{length}
use Rattle.meaning.specs.Limits.{block_words}
use Rattle.meaning.specs.Places.{marked}
use Rattle.meaning.proofs.Counting.{below-few}
use Rattle.compactor.proofs.Settling.{settling_bounded, settled_ready, settled_misordered, position_low}
use Rattle.compactor.proofs.settle.Goals as goal

pub judge-requires : goal.judge-requires
judge-requires c =
    let f = c.fill-total in
    settling_bounded c.args.words.now (length c.args.live.now) f.new.live f.new.offsets f.result c.requires.few c.requires.inside f.ensures

pub overflow_cast-result : goal.overflow_cast-result
overflow_cast-result c =
    let f = c.fill-total in
    let low = position_low c.args.words.now (length c.args.live.now) f.new.live f.new.offsets f.result c.requires.few c.requires.inside f.ensures
    c.args.order.now _ (sym c.in-Some.is ∙ c.judge.ensures) in
    -- the count of live words would fit too, so that a position made of it is refused for what it says
    let live = below-few (marked c.args.words.now) (block_words * length c.args.live.now) in
    record { fits = omega (arith, low, c.requires.short, f.ensures.count, live, c.requires.few) }

pub returns-in-None : goal.returns-in-None
returns-in-None c =
    let f = c.fill-total in
    settled_ready c.args.words.now (length c.args.live.now) f.new.live f.new.offsets f.result c.requires.few c.requires.inside f.ensures
    c.args.order.now (sym c.in-None.is ∙ c.judge.ensures)

pub returns-in-Some : goal.returns-in-Some
returns-in-Some c =
    let f = c.fill-total in
    settled_misordered c.args.words.now (length c.args.live.now) f.new.live f.new.offsets f.result c.requires.few c.requires.inside f.ensures
    c.args.order.now _ (sym c.in-Some.is ∙ c.judge.ensures)

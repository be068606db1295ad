-- `blocks::drop_low` meets its contract. As many of the lowest set bits are dropped as there were turns. Assumes nothing.
use Rattle.blocks.specs.Cursors.{Dropped}
use Rattle.blocks.proofs.drop_low.Given as goal

abbrev pub invariant-loop : goal.invariant-loop
invariant-loop l = Dropped l.word l.counter l.rest

-- `bits::select` meets its contract, by the halving search. Assumes nothing.
use Prim.Native.Nat.{◌^◌, ◌-◌}
use Rattle.meaning.specs.Limits.{block_words}
use Rattle.bits.proofs.Halving.{Halving}
use Rattle.bits.proofs.select.Given as goal

abbrev pub invariant-loop-half : goal.invariant-loop-half
invariant-loop-half l = Halving block_words l.word l.n l.rest l.left l.at (2 ^ (6 - l.half-index))

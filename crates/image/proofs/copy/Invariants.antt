-- `copy` meets its contract: the buffer's first entries are copied. Assumes nothing.
use Rattle.std.proofs.Common.{◌≡◌, take, map}
use Rattle.meaning.specs.Places.{up_to}
use Rattle.image.proofs.copy.Given as goal

abbrev pub invariant-loop-k : goal.invariant-loop-k
invariant-loop-k g l = take l.k l.buffer ≡ map (g.T.InWords.value l.bytes l.from) (up_to l.k)

-- `Line::put_numbers` meets its contract: the first numbers are put. Assumes nothing.
use Rattle.std.proofs.Common.{◌*◌, take}
use Rattle.meaning.specs.Text.{spaced}
use Rattle.text.specs.Placed.{Puts}
use Rattle.text.proofs.Line.put_numbers.Given as goal

abbrev pub invariant-loop-n : goal.invariant-loop-n
invariant-loop-n l = Puts l.initial.self l.self (spaced (take l.n-index l.numbers)) (11 * l.n-index)

-- `Line::put_words` meets its contract. Assumes nothing.
use Rattle.text.proofs.Placing.{puts-then}
use Rattle.text.proofs.Line.put_words.Goals as goal

pub returns : goal.returns
returns c = puts-then (puts-then c.put.ensures c.put_numbers.ensures) c.put-2.ensures

-- `text::put_collected` meets its contract. Assumes nothing.
use native.Mathlib.Omega.{arith}
use lib.Seq.{length-take-le}
use Rattle.std.proofs.Common.{rules}
use Rattle.meaning.specs.Text.{ok_line, words_line}
use Rattle.text.proofs.Placing.{puts-then, puts-end}
use Rattle.text.proofs.put_collected.Goals as goal

pub returns : goal.returns
unfolding ok_line words_line
returns c =
    let top = puts-then c.put.ensures c.put_number.ensures in
    let objects = puts-then (puts-then top c.put-2.ensures) c.put_number-2.ensures in
    let blocks = puts-then (puts-then objects c.put-3.ensures) c.put_number-3.ensures in
    let ok = puts-then blocks c.put-4.ensures in
    let all = puts-then (puts-then ok c.put_words.ensures) c.put_words-2.ensures in
    puts-end (omega (arith, length-take-le c.args.top c.args.heap.now c.requires.1)) all (search rules)

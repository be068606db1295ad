-- `text::put_refused` meets its contract. Assumes nothing.
use native.Mathlib.Omega.{arith}
use Rattle.std.proofs.Common.{rules}
use Rattle.meaning.specs.Text.{refused_line}
use Rattle.text.proofs.Placing.{puts-then, puts-end}
use Rattle.text.proofs.put_refused.Goals as goal

pub returns : goal.returns
unfolding refused_line
returns c =
    let p = puts-then (puts-then (puts-then (puts-then c.put.ensures c.put_number.ensures) c.put-2.ensures) c.put_number-2.ensures) c.put-3.ensures in
    puts-end (omega arith) p (search rules)

-- `Line::put_number` meets its contract. Assumes nothing.
use native.Mathlib.Omega.{arith}
use Rattle.std.proofs.Common.{rules}
use Rattle.std.proofs.lemmas.Fmt.{length-decimal-le}
use Rattle.text.proofs.Placing.{puts-then, puts-within}
use Rattle.text.proofs.Digits.{decimal_one, decimal_two, decimal_written}
use Rattle.text.proofs.Line.put_number.Goals as goal

pub returns-then-n-lt10 : goal.returns-then-n-lt10
returns-then-n-lt10 c = rw (decimal_one c.args.n c.if-n-lt10.true) (puts-within (omega arith) c.put_digit.ensures)

pub returns-then-n-lt100 : goal.returns-then-n-lt100
returns-then-n-lt100 c =
    rw (decimal_two c.args.n (omega (arith, c.if-n-lt10.false)) c.if-n-lt100.true)
    (puts-within (omega arith) (puts-then c.put_digit-then-n-lt100.ensures c.put_digit-then-n-lt100-2.ensures))

pub returns : goal.returns
returns c = search (rules, puts-within, decimal_written, length-decimal-le)

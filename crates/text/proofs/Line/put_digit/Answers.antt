-- `Line::put_digit` meets its contract: one byte of the buffer is written. Assumes nothing.
use native.Mathlib.Omega.{arith}
use Rattle.std.proofs.Common.{refl, rules}
use Rattle.text.proofs.Placing.{placed_part}
use Rattle.text.proofs.Line.put_digit.Goals as goal

pub returns : goal.returns
returns c = record {
  same_buffer = refl;
  same_size = search rules;
  placed = placed_part _ _ _ _ _ _ (cc) (omega arith) (omega arith) (omega arith);
}

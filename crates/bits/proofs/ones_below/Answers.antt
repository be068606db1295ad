-- `bits::ones_below` meets its contract: the bits below i are the remainder by bit i, and their count is one operation. Assumes nothing.
use mathlib.Core.Path.{◌≡◌, ap, ◌∙◌}
use Prim.Native.Nat.{◌*◌, ◌%◌, ◌^◌}
use native.Mathlib.Omega.{arith}
use native.Mathlib.Nat.{one-mul}
use lib.Count.{ones}
use lib.Pow.{shl_exact}
use Rattle.bits.proofs.Words.{ones_rest}
use Rattle.bits.proofs.ones_below.Goals as goal

pub returns : goal.returns
returns c = let i = c.args.i in
    let e : 1 * 2 ^ i % 2 ^ 64 ≡ 2 ^ i = shl_exact 1 i 64 (omega arith) (omega arith) ∙ one-mul (2 ^ i) in
    ap (λ n. ones (c.args.word % n)) e ∙ ones_rest i c.args.word

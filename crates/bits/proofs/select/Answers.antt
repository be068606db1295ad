-- `bits::select` meets its contract, by the halving search. Assumes nothing.
use mathlib.Core.Path.{◌≡◌}
use Prim.Native.Nat.{◌+◌, ◌-◌, ◌^◌}
use native.Mathlib.Omega.{arith}
use lib.ListN.{get_or}
use Rattle.bits.proofs.Halving.{halves, half_at, halve_start, halve_low, halve_high, halve_end}
use Rattle.bits.proofs.select.Goals as goal
use Rattle.bits.proofs.select.Goals.{then-low-left, else-low-left}

pub loop-half-init : goal.loop-half-init
loop-half-init c = halve_start _ _ _ (omega arith) c.requires

pub loop-half-preserved : goal.loop-half-preserved
loop-half-preserved c =
    let i = c.loop-half.half-index in
    let h = half_at i c.loop-half-test.true in
    let others : 2 ^ (6 - (i + 1)) ≡ 2 ^ (6 - i) - get_or halves i 0 = omega (arith, h.next, h.twice) in
    elim c.if-low-left.branch [
      | then-low-left w ↦ rw (w.rest-is, w.left-is, w.at-is, others) (halve_high _ _ _ _ _ _ _ _ _ (omega (arith, h.more, h.twice)) c.ones_below-low.ensures w.if-low-left.true c.loop-half.invariant)
      | else-low-left w ↦ rw (w.rest-is, w.left-is, w.at-is, h.next) (halve_low _ _ _ _ _ _ _ _ _ h.more (omega (arith, h.more, h.twice)) c.ones_below-low.ensures w.if-low-left.false c.loop-half.invariant)
    ]

pub returns : goal.returns
returns c =
    let e : c.loop-half.half-index ≡ 6 = omega arith in
    halve_end _ _ _ _ _ _ _ (rw e (omega arith)) c.loop-half.invariant

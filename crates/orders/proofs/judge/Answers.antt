-- `orders::judge` meets its contract. No position before i breaks, and the table has the steps done. Assumes nothing.
use mathlib.Core.Path.{sym, ◌∙◌}
use Rattle.orders.proofs.Judging.{judging_start, judging-step, judging-next, judging-stop, judging-end}
use Rattle.orders.proofs.judge.Goals as goal

pub loop-i-init : goal.loop-i-init
loop-i-init c = judging_start _ _ _

pub returns-then-step_breaks : goal.returns-then-step_breaks
returns-then-step_breaks c =
    judging-stop _ _ _ _ _ c.loop-i.invariant c.loop-i-test.true (sym (c.step_breaks.ensures _ c.loop-i.invariant.ticks) ∙ c.if-step_breaks.true)

pub bounds-done-t : goal.bounds-done-t
bounds-done-t c =
    judging-step _ _ _ _ _ c.loop-i.invariant c.requires (sym (c.step_breaks.ensures _ c.loop-i.invariant.ticks) ∙ c.if-step_breaks.false)

pub loop-i-preserved : goal.loop-i-preserved
loop-i-preserved c =
    judging-next _ _ _ _ _ c.loop-i.invariant c.requires c.loop-i-test.true (sym (c.step_breaks.ensures _ c.loop-i.invariant.ticks) ∙ c.if-step_breaks.false)

pub returns : goal.returns
returns c = c.length_breaks.ensures ∙ judging-end _ _ _ _ _ c.loop-i.invariant _ c.targets.ensures c.loop-i-test.false

-- `walk` meets its contract. Assumes nothing.
use mathlib.Core.Path.{sym, ◌∙◌}
use native.Mathlib.Omega.{arith}
use lib.ListN.{get_or}
use Rattle.meaning.proofs.Walking.{walking-illegal, walking-past}
use Rattle.headers.proofs.Reading.{read_some, read_none}
use Rattle.walk.proofs.WalkLaws.{passing_start, passing_next, passing_stop, passing_end}
use borrow.Author.Rules.{rules}
use Rattle.walk.proofs.Survey.walk.Goals as goal

pub objects-init : goal.objects-init
objects-init c = passing_start c.requires

pub objects-preserved : goal.objects-preserved
objects-preserved c =
    let r = read_some (get_or c.args.heap.now c.objects.p 0) c.in-Some.header (sym c.read.ensures ∙ c.in-Some.is) in
    passing_next c.objects.invariant _ _ _ _ (omega arith) r.count_is r.legal (omega arith)
    (rw (← r.kind_is) (search rules))

pub returns-then-p-top : goal.returns-then-p-top
returns-then-p-top c = passing_end c.objects.invariant c.if-p-top.true

pub returns-in_default : goal.returns-in_default
returns-in_default c = let s = c.objects.invariant in
    passing_stop s (omega arith)
    (walking-illegal s.walking (omega arith) (read_none (get_or c.args.heap.now c.objects.p 0) (sym c.read.ensures ∙ c.in_default.is)))

pub returns-then-top-p : goal.returns-then-top-p
returns-then-top-p c =
    let s = c.objects.invariant in
    let r = read_some (get_or c.args.heap.now c.objects.p 0) c.in-Some.header (sym c.read.ensures ∙ c.in-Some.is) in
    passing_stop s (omega arith) (walking-past s.walking (omega arith) (omega (arith, r.count_is)))

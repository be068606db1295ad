-- `check` meets its contract: refusal 1, then what the checks 2 to 5 say. Assumes nothing.
use mathlib.Core.Path.{refl}
use Rattle.std.proofs.lemmas.Result.{err_from_is_err_and, MatchResult-at_ok, MatchResult-at_err}
use Rattle.meaning.specs.Collect.{checked, check}
use Rattle.objects.proofs.Judging.{blank-start, refusal-said, sound-counted}
use Rattle.objects.proofs.check.Goals as goal

pub returns-in_err-given : goal.returns-in_err-given
unfolding check checked
returns-in_err-given c =
    let p = err_from_is_err_and c.from_residual.result c.from_residual.ensures.1 in
    let (is, unfit) = MatchResult-at_err _ _ c.in_err-given.field-0.0 c.in_err-given.was c.of.ensures in
    rw (p.1, p.2, is, unfit) refl

pub examine-requires : goal.examine-requires
examine-requires c =
    let g = c.in_ok-given.given in
    rw c.blank-survey.ensures (blank-start g.heap.now g.top g.roots.now g.marks.now g.fit)

pub returns-in_err-examine : goal.returns-in_err-examine
returns-in_err-examine c =
    let g = c.in_ok-given.given in
    let same = MatchResult-at_ok _ _ g c.in_ok-given.was c.of.ensures in
    let p = err_from_is_err_and c.from_residual-in_err-examine.result c.from_residual-in_err-examine.ensures.1 in
    rw (p.1, p.2, ← same.0, ← same.1, ← same.2, ← same.3)
    (refusal-said g.heap.now g.top g.roots.now g.marks.now c.examine.new.survey c.in_err-examine.field-0.0 g.fit (rw c.in_err-examine.was at c.examine.ensures))

pub returns : goal.returns
returns c =
    let g = c.in_ok-given.given in
    let s = c.examine.new.survey in
    let same = MatchResult-at_ok _ _ g c.in_ok-given.was c.of.ensures in
    let (os, is-sound, survey) = rw c.in_ok-examine.was at c.examine.ensures in
    rw (← same.0, ← same.1, ← same.2, ← same.3)
    (sound-counted g.heap.now g.top g.roots.now g.marks.now s.headers s.words s.fields os c.count.result g.fit is-sound survey (rw same.3 c.count.ensures))

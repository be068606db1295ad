-- `collect` meets its contract: refusal 1, then what preparing says, and where it is ready the last phase. Assumes nothing.
use mathlib.Core.Path.{◌≡◌}
use mathlib.Core.Bool.{true, false}
use Rattle.std.proofs.lemmas.Result.{err_from_is_err_and, MatchResult-at_ok, MatchResult-at_err}
use Rattle.meaning.specs.Collect.{sizes_fit, tables_fit}
use Rattle.compactor.specs.Phases.{PreparedAs}
use Rattle.compactor.proofs.Preparing.{Fit, surveyed_references, prepared_as}
use Rattle.compactor.proofs.Collecting.{collects_unfit, collects_refused, sorted_exact, sorted_finishable, collects-done}
use Rattle.compactor.proofs.collect.Goals as goal
use Rattle.compactor.proofs.collect.Goals.{Else-not-tables_fit, After-prepare}

-- refused by 1
pub returns-in_err-given : goal.returns-in_err-given
returns-in_err-given c =
    let a = c.args in
    let p = err_from_is_err_and c.from_residual.result c.from_residual.ensures.1 in
    let (is, unfit) = MatchResult-at_err _ _ c.in_err-given.field-0.0 c.in_err-given.was c.of.ensures in
    rw (p.1, p.2, is) (collects_unfit a.heap.now a.top a.roots.now a.marks.now a.order.now a.live.now a.offsets.now (rw unfit))

pub returns-then-not-tables_fit : goal.returns-then-not-tables_fit
returns-then-not-tables_fit c =
    let a = c.args in
    let g = c.in_ok-given.given in
    let same = MatchResult-at_ok _ _ g c.in_ok-given.was c.of.ensures in
    let f : sizes_fit a.heap.now a.top a.roots.now a.marks.now ≡ true = rw (← same.0, ← same.1, ← same.2, ← same.3) g.fit in
    let u : tables_fit a.heap.now a.order.now a.live.now a.offsets.now ≡ false = cc in
    collects_unfit a.heap.now a.top a.roots.now a.marks.now a.order.now a.live.now a.offsets.now (rw (f, u))

-- past refusal 1
fit : (c : Else-not-tables_fit) → Fit c.args.heap.now c.args.top c.args.roots.now c.args.marks.now c.args.order.now c.args.live.now c.args.offsets.now
fit c =
    let g = c.in_ok-given.given in
    let same = MatchResult-at_ok _ _ g c.in_ok-given.was c.of.ensures in
    record { sizes = rw (← same.0, ← same.1, ← same.2, ← same.3) g.fit; tables = cc }

-- what preparing says, of what the collection was given
said : (c : After-prepare) → let a = c.args in let n = c.prepare.new in
    PreparedAs a.heap.now a.top a.roots.now a.marks.now a.order.now a.live.now a.offsets.now n.live n.offsets n.survey c.prepare.result
said c =
    let same = MatchResult-at_ok _ _ c.in_ok-given.given c.in_ok-given.was c.of.ensures in
    rw (same.0, same.1, same.2, same.3) at c.prepare.ensures

-- refused by 2 to 6
pub returns-in_err-total : goal.returns-in_err-total
returns-in_err-total c =
    let p = err_from_is_err_and c.from_residual-in_err-total.result c.from_residual-in_err-total.ensures.1 in
    rw (p.1, p.2)
    (collects_refused (fit (goal.at.returns-in_err-total c).Else-not-tables_fit) _ _ _
    (prepared_as _ _ _ _ _ _ _ _ _ _ _ _ c.in_err-total.was (said (goal.at.returns-in_err-total c).After-prepare)))

-- accepted: sorted, and the survey
pub invariant_of-tables : goal.invariant_of-tables
invariant_of-tables c =
    let (sorted, surveyed) = prepared_as _ _ _ _ _ _ _ _ _ _ _ _ c.in_ok-total.was (said (goal.at.invariant_of-tables c).After-prepare) in
    record { exact = sorted_exact (fit (goal.at.invariant_of-tables c).Else-not-tables_fit) sorted (surveyed_references surveyed) }

pub finish-requires : goal.finish-requires
finish-requires c =
    let (sorted, surveyed) = prepared_as _ _ _ _ _ _ _ _ _ _ _ _ c.in_ok-total.was (said (goal.at.finish-requires c).After-prepare) in
    sorted_finishable (fit (goal.at.finish-requires c).Else-not-tables_fit) sorted (surveyed_references surveyed)

pub returns : goal.returns
returns c =
    let (sorted, surveyed) = prepared_as _ _ _ _ _ _ _ _ _ _ _ _ c.in_ok-total.was (said (goal.at.returns c).After-prepare) in
    collects-done (fit (goal.at.returns c).Else-not-tables_fit) sorted (surveyed_references surveyed) c.finish.ensures

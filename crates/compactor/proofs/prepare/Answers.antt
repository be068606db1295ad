-- `prepare` meets its contract: what the checks say, then the tables and the order. Assumes nothing.
use Rattle.std.proofs.Common.{Ok}
use Rattle.objects.specs.Examined.{Examined}
use Rattle.objects.proofs.Judging.{blank-start}
use Rattle.compactor.proofs.Preparing.{fitting, sound_settleable, prepared, examined_as}
use Rattle.compactor.proofs.prepare.Goals as goal
use Rattle.compactor.proofs.prepare.Goals.{In_ok-examine}

pub examine-requires : goal.examine-requires
examine-requires c =
    let g = c.args.given in
    rw c.blank.ensures (blank-start g.heap.now g.top g.roots.now g.marks.now g.fit)

-- past the checks
sound : (c : In_ok-examine) → let g = c.args.given in Examined g.heap.now g.top g.roots.now g.marks.now c.examine.new.survey (Ok tt)
sound c =
    let g = c.args.given in
    examined_as g.heap.now g.top g.roots.now g.marks.now c.examine.new.survey c.examine.result (Ok tt) c.in_ok-examine.was c.examine.ensures

pub settle-requires : goal.settle-requires
settle-requires c =
    sound_settleable (fitting c.args.given.fit c.requires) c.examine.new.survey (sound (goal.at.settle-requires c).In_ok-examine)

pub returns : goal.returns
returns c =
    prepared (fitting c.args.given.fit c.requires) c.examine.new.survey (sound (goal.at.returns c).In_ok-examine)
    _ _ c.settle.result c.settle.ensures

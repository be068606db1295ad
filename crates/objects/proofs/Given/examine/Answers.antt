-- `examine` meets its contract: the walk, then the searches, one after the other. Assumes nothing.
use native.Mathlib.Omega.{arith}
use mathlib.Core.Path.{sym, ◌∙◌}
use Prim.Native.Nat.{◌*◌}
use lib.ListN.{length}
use Rattle.meaning.specs.Limits.{block_words}
use Rattle.search.specs.Search.{stray, bad_field}
use Rattle.search.proofs.FirstPlace.{first_within}
use Rattle.objects.proofs.Judging.{Begun, begun, judged-3, judged-4, judged-5, judged-sound}
use Rattle.objects.proofs.Given.examine.Goals as goal
use Rattle.objects.proofs.Given.examine.Goals.{Else-end-top}

-- past the walk
went : (c : Else-end-top) → let n = c.walk-end.new.self in Begun c.args.self.heap.now c.args.self.top c.args.self.roots.now c.args.self.marks.now n.headers n.words n.fields
went c =
    begun c.args.self.heap.now c.args.self.top c.args.self.roots.now c.args.self.marks.now _ _ _ c.walk-end.result
    c.args.self.fit c.walk-end.ensures c.if-end-top.false

pub overflow_cast-result-in-Some : goal.overflow_cast-result-in-Some
overflow_cast-result-in-Some c =
    let w = went (goal.at.overflow_cast-result-in-Some c).Else-end-top in
    record { fits = omega (arith, w.fit.few, first_within (stray c.args.self.marks.now c.walk-end.new.self.headers) (block_words * length c.args.self.marks.now) c.in-Some.place (sym c.in-Some.is ∙ c.first_stray.ensures)) }

pub returns-in-Some : goal.returns-in-Some
returns-in-Some c = judged-3 (went (goal.at.returns-in-Some c).Else-end-top) _ (sym c.in-Some.is ∙ c.first_stray.ensures)

pub returns-in-Some-first_bad_root : goal.returns-in-Some-first_bad_root
returns-in-Some-first_bad_root c =
    judged-4 (went (goal.at.returns-in-Some-first_bad_root c).Else-end-top) (sym c.in_default.is ∙ c.first_stray.ensures)
    _ (sym c.in-Some-first_bad_root.is ∙ c.first_bad_root.ensures)

pub overflow_cast-result-in-Some-first_bad_field : goal.overflow_cast-result-in-Some-first_bad_field
overflow_cast-result-in-Some-first_bad_field c =
    let w = went (goal.at.overflow_cast-result-in-Some-first_bad_field c).Else-end-top in
    record { fits = omega (arith, w.fit.few, first_within (bad_field c.args.self.heap.now c.args.self.marks.now c.keep_refs.new.fields) (block_words * length c.args.self.marks.now) c.in-Some-first_bad_field.place (sym c.in-Some-first_bad_field.is ∙ c.first_bad_field.ensures)) }

pub returns-in-Some-first_bad_field : goal.returns-in-Some-first_bad_field
returns-in-Some-first_bad_field c =
    judged-5 (went (goal.at.returns-in-Some-first_bad_field c).Else-end-top) (sym c.in_default.is ∙ c.first_stray.ensures)
    (sym c.in_default-first_bad_root.is ∙ c.first_bad_root.ensures) _ c.keep_refs.ensures
    _ (sym c.in-Some-first_bad_field.is ∙ c.first_bad_field.ensures)

pub returns : goal.returns
returns c =
    judged-sound (went (goal.at.returns c).Else-end-top) (sym c.in_default.is ∙ c.first_stray.ensures)
    (sym c.in_default-first_bad_root.is ∙ c.first_bad_root.ensures) _ c.keep_refs.ensures
    (sym c.in_default-first_bad_field.is ∙ c.first_bad_field.ensures)

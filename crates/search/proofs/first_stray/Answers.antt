-- `search::first_stray` meets its contract. Assumes nothing.
use mathlib.Core.Path.{◌≡◌, sym, ◌∙◌}
use mathlib.Core.Bool.{not, ◌&&◌}
use lib.ListN.{length, get_or}
use Rattle.meaning.specs.Limits.{block_words}
use Rattle.meaning.specs.Places.{bit_set}
use native.Mathlib.Omega.{arith}
use Rattle.search.proofs.FirstPlace.{first_none, found_first, block-found, block_none}
use Rattle.search.proofs.InBlocks.{stray-block}
use Rattle.search.proofs.first_stray.Goals as goal

pub overflow_add-result : goal.overflow_add-result
overflow_add-result c =
    let b = c.loop-b.b in
    let found = found_first (λ i. bit_set (get_or c.args.marks.now b 0) i && not (bit_set (get_or c.args.headers.now b 0) i)) block_words c.in-Some.i
    (sym c.in-Some.is ∙ c.first_stray_in.ensures) in
    record { fits = omega (arith, found.within, c.requires) }

pub returns-in-Some : goal.returns-in-Some
returns-in-Some c =
    let a = c.args in
    let l = c.loop-b in
    block-found _ _ l.b (stray-block a.marks.now a.headers.now l.b) l.invariant (length a.marks.now) _ c.loop-b-test.true (sym c.in-Some.is ∙ c.first_stray_in.ensures)

pub loop-b-preserved : goal.loop-b-preserved
loop-b-preserved c =
    let a = c.args in
    let l = c.loop-b in
    block_none _ _ l.b (stray-block a.marks.now a.headers.now l.b) l.invariant (sym c.in_default.is ∙ c.first_stray_in.ensures)

pub returns : goal.returns
returns c = let e : c.loop-b.b ≡ length c.args.marks.now = omega arith in
    rw (← e) (first_none _ _ c.loop-b.invariant)

-- `search::first_bad_field` meets its contract. Assumes nothing.
use mathlib.Core.Path.{◌≡◌, sym, ◌∙◌}
use mathlib.Core.Bool.{◌&&◌}
use Prim.Native.Nat.{◌+◌, ◌*◌}
use lib.ListN.{length, get_or}
use Rattle.meaning.specs.Limits.{block_words}
use Rattle.meaning.specs.Places.{bit_set}
use Rattle.search.specs.Search.{lost_at}
use native.Mathlib.Omega.{arith}
use Rattle.meaning.proofs.Bitmaps.{marked-block}
use Rattle.search.proofs.FirstPlace.{first_none, found_first, block-found, block_none}
use Rattle.search.proofs.InBlocks.{bad-block}
use Rattle.search.proofs.first_bad_field.Goals as goal

pub first_bad_in-requires : goal.first_bad_in-requires
first_bad_in-requires c i h e = c.requires.1 _ (marked-block c.args.refs.now c.loop-block.block i h ∙ e)

pub overflow_add-result : goal.overflow_add-result
overflow_add-result c =
    let b = c.loop-block.block in
    let found = found_first (λ i. bit_set (get_or c.args.refs.now b 0) i && lost_at c.args.heap.now c.args.marks.now (block_words * b + i)) block_words c.in-Some.i
    (sym c.in-Some.is ∙ c.first_bad_in.ensures) in
    record { fits = omega (arith, found.within, c.requires.0) }

pub returns-in-Some : goal.returns-in-Some
returns-in-Some c =
    let a = c.args in
    let l = c.loop-block in
    block-found _ _ l.block (bad-block a.heap.now a.marks.now a.refs.now l.block) l.invariant (length a.marks.now) _ c.loop-block-test.true (sym c.in-Some.is ∙ c.first_bad_in.ensures)

pub loop-block-preserved : goal.loop-block-preserved
loop-block-preserved c =
    let a = c.args in
    let l = c.loop-block in
    block_none _ _ l.block (bad-block a.heap.now a.marks.now a.refs.now l.block) l.invariant (sym c.in_default.is ∙ c.first_bad_in.ensures)

pub returns : goal.returns
returns c = let e : c.loop-block.block ≡ length c.args.marks.now = omega arith in
    rw (← e) (first_none _ _ c.loop-block.invariant)

-- `tables::new_to_old` meets its contract. Assumes nothing.
use mathlib.Core.Path.{sym}
use native.Mathlib.Omega.{arith}
use lib.ListN.{get_or}
use Rattle.std.proofs.lemmas.Result.{err_from_is_err_and}
use Rattle.meaning.specs.Limits.{block_words}
use Rattle.meaning.specs.Places.{bit_set, marked}
use Rattle.meaning.specs.Lookups.{new_to_old}
use Rattle.meaning.proofs.Counting.{below-zero, src-within}
use Rattle.tables.specs.Paper.{Unfit}
use Rattle.tables.proofs.Searching.{searching_next, searching_found, searching_end}
use Rattle.tables.proofs.new_to_old.Goals as goal

pub returns-in_err-entries : goal.returns-in_err-entries
unfolding new_to_old
returns-in_err-entries c =
    let p = err_from_is_err_and c.from_residual.result c.from_residual.ensures.1 in
    let (e, found) = c.in_err-entries.ensures in
    let unfit : Unfit c.args.live.now c.args.offsets.now = found in
    rw (p.1, p.2, e, unfit)

pub loop-b-init : goal.loop-b-init
loop-b-init c = omega (arith, below-zero (marked c.args.live.now))

pub overflow_add-b : goal.overflow_add-b
overflow_add-b c = let (e, fit) = c.in_ok-entries.ensures in
    omega (arith, src-within (bit_set (get_or c.args.live.now c.loop-b.b 0)) block_words c.loop-b.left (omega arith))

pub returns-then-left-here : goal.returns-then-left-here
returns-then-left-here c = let (e, fit) = c.in_ok-entries.ensures in
    rw (c.at.ensures, ← c.number-left.ensures) (sym (searching_found _ _ _ fit _ _ _ (omega arith) c.select.ensures c.loop-b.invariant))

pub loop-b-preserved : goal.loop-b-preserved
loop-b-preserved c = searching_next _ _ _ _ _ c.ones-here.ensures (omega arith) c.loop-b.invariant

pub returns : goal.returns
returns c = let (e, fit) = c.in_ok-entries.ensures in
    rw (← c.number-left.ensures) (sym (searching_end _ _ _ fit _ _ (omega arith) c.loop-b.invariant))

-- `tables::old_to_new` meets its contract: its tests are those of the definition. Assumes nothing.
use mathlib.Core.Path.{sym, ◌∙◌}
use native.Mathlib.Omega.{arith}
use Prim.Native.Nat.{◌/◌, ◌%◌}
use lib.ListN.{get_or}
use Rattle.std.proofs.lemmas.Result.{err_from_is_err_and}
use Rattle.meaning.specs.Limits.{block_words}
use Rattle.meaning.specs.Places.{bit_set}
use Rattle.meaning.specs.Lookups.{old_to_new}
use Rattle.meaning.proofs.Counting.{below-few}
use Rattle.tables.specs.Paper.{Unfit}
use Rattle.tables.proofs.Judging.{outside, entry-too-high, bit-clear, bit-set}
use Rattle.tables.proofs.old_to_new.Goals as goal

pub returns-in_err-entries : goal.returns-in_err-entries
unfolding old_to_new
returns-in_err-entries c =
    let p = err_from_is_err_and c.from_residual.result c.from_residual.ensures.1 in
    let (e, found) = c.in_err-entries.ensures in
    let unfit : Unfit c.args.live.now c.args.offsets.now = found in
    rw (p.1, p.2, e, unfit)

pub returns-then-branch-b : goal.returns-then-branch-b
returns-then-branch-b c = let (e, fit) = c.in_ok-entries.ensures in
    rw (← c.number-p.ensures) (sym (outside _ _ fit _ (omega arith)))

pub returns-then-entry-gt-HEAP_WORDS : goal.returns-then-entry-gt-HEAP_WORDS
returns-then-entry-gt-HEAP_WORDS c = let (e, fit) = c.in_ok-entries.ensures in
    rw (← c.number-p.ensures) (sym (entry-too-high _ _ fit _ (omega arith) (omega arith)))

pub returns-then-not-test : goal.returns-then-not-test
returns-then-not-test c = let (e, fit) = c.in_ok-entries.ensures in
    rw (← c.number-p.ensures) (sym (bit-clear _ _ fit _ (omega arith) (omega arith) (sym c.test.ensures ∙ c.if-not-test.true)))

pub overflow_add-entry : goal.overflow_add-entry
overflow_add-entry c = omega (arith, below-few (bit_set (get_or c.args.live.now (c.number-p.result / block_words) 0)) (c.number-p.result % block_words))

pub returns : goal.returns
returns c = let (e, fit) = c.in_ok-entries.ensures in
    rw (c.at.ensures, c.ones_below.ensures, ← c.number-p.ensures)
    (sym (bit-set _ _ fit _ (omega arith) (omega arith) (sym c.test.ensures ∙ c.if-not-test.false)))

-- `bits::next_set` meets its contract. Assumes nothing.
use native.Mathlib.Omega.{arith}
use Rattle.bits.proofs.NextSet.{next_in_word, next_none, word_clear}
use Rattle.bits.proofs.next_set.Goals as goal

pub returns-then-rest-ne0 : goal.returns-then-rest-ne0
returns-then-rest-ne0 c = next_in_word _ _ _ _ c.max-at.ensures c.loop-b.auto.b c.loop-b.invariant c.loop-b-test.true (λ b. (c.type_inv.map b).fits) c.if-rest-ne0.true

pub loop-b-preserved : goal.loop-b-preserved
loop-b-preserved c = word_clear _ _ _ _ c.max-at.ensures c.loop-b.auto.b c.loop-b.invariant c.if-rest-ne0.false

pub returns : goal.returns
returns c = next_none _ _ _ (omega arith) c.loop-b.invariant

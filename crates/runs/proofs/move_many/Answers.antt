-- `runs::move_many` meets its contract. Assumes nothing.
use mathlib.Core.Path.{◌∙◌}
use Prim.Native.Nat.{◌+◌}
use native.Mathlib.Omega.{arith}
use Rattle.runs.proofs.CopiedRuns.{landed_next, landed_last}
use Rattle.runs.proofs.move_many.Goals as goal
use Rattle.runs.proofs.move_many.Goals.{else-loop-i-test, then-loop-i-test+else-rest-i-gt4}

-- the last turn leaves no room for four more, or there is none
pub returns : goal.returns
returns c =
    let l = c.loop-i in
    c.put_four-2.ensures ∙ elim c.loop-i-test.branch [
      | else-loop-i-test w ↦ rw w.heap-is (landed_last _ _ _ _ l.i _ _ c.requires.0 (omega arith) l.invariant.0 c.requires.2 (omega arith) c.four_at-last.ensures l.invariant.1)
      | then-loop-i-test+else-rest-i-gt4 w ↦
          rw (w.heap-is, w.put_four.ensures)
          (landed_last _ _ _ _ (l.i + 4) _ _ c.requires.0 (omega arith) (omega arith) c.requires.2 (omega arith) c.four_at-last.ensures
          (landed_next _ _ _ l.i _ _ c.requires.2 (omega arith) w.four_at-words.ensures l.invariant.1))
    ]

-- `search::keep_refs` meets its contract. Assumes nothing.
use mathlib.Core.Path.{sym, ◌∙◌}
use native.Mathlib.Omega.{arith}
use Rattle.search.proofs.KeptMarks.{word-left, keeping-next, keeping-end}
use Rattle.search.proofs.keep_refs.Goals as goal

pub refs_in-requires : goal.refs_in-requires
refs_in-requires c i h e = c.requires _ (sym (word-left _ _ _ _ c.loop-b.invariant i h) ∙ e)

pub loop-b-preserved : goal.loop-b-preserved
loop-b-preserved c = keeping-next _ _ c.loop-b.fields c.loop-b.b c.loop-b.invariant _ (omega arith) c.refs_in.ensures

pub returns : goal.returns
returns c = keeping-end _ _ c.loop-b.fields c.loop-b.b c.loop-b.invariant (omega arith)

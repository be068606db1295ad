-- `fixing::fix_roots` meets its contract: the roots so far are sent on. Assumes nothing.
use Rattle.std.proofs.Common.{arith}
use Rattle.std.proofs.lemmas.List.{get_or_default}
use Rattle.std.proofs.lemmas.List.Edits.{map_over_more}
use Rattle.meaning.specs.Places.{below, marked}
use Rattle.meaning.specs.Slide.{fix_word}
use Rattle.fixing.proofs.fix_roots.Goals as goal

pub loop-word-preserved : goal.loop-word-preserved
loop-word-preserved c = let l = c.loop-word in
    rw c.fix_root.ensures
    (map_over_more (fix_word (below (marked c.args.tables.live.now))) _ _ _ _ (omega arith) l.invariant (get_or_default l.roots l.word-index 0 _ (omega arith)))

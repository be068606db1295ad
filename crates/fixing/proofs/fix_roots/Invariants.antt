-- `fixing::fix_roots` meets its contract: the roots so far are sent on. Assumes nothing.
use Rattle.std.proofs.Common.{◌≡◌, ◌++◌, map, take, drop}
use Rattle.meaning.specs.Places.{below, marked}
use Rattle.meaning.specs.Slide.{fix_word}
use Rattle.fixing.proofs.fix_roots.Given as goal

abbrev pub invariant-loop-word : goal.invariant-loop-word
invariant-loop-word l = l.roots ≡ map (fix_word (below (marked l.tables.live.now))) (take l.word-index l.initial.roots) ++ drop l.word-index l.initial.roots

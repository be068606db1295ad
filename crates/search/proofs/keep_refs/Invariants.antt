-- `search::keep_refs` meets its contract. The loop has done the first b words. Assumes nothing.
use Rattle.search.specs.Search.{ref_at}
use Rattle.search.proofs.KeptMarks.{Keeping}
use Rattle.search.proofs.keep_refs.Given as goal

abbrev pub invariant-loop-b : goal.invariant-loop-b
invariant-loop-b l = Keeping (ref_at l.heap) l.initial.fields l.fields l.b

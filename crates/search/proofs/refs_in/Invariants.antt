-- `search::refs_in` meets its contract. Assumes nothing.
use Prim.Native.Nat.{ℕ, ◌+◌, ◌*◌, ◌<◌}
use mathlib.Core.Path.{◌≡◌}
use mathlib.Core.Bool.{◌&&◌}
use lib.ListN.{length}
use Rattle.std.specs.List.{All}
use Rattle.meaning.specs.Limits.{block_words}
use Rattle.meaning.specs.Places.{bit_set, is_in}
use Rattle.search.specs.Search.{ref_at}
use Rattle.search.proofs.refs_in.Given as goal

abbrev pub invariant-loop-i : goal.invariant-loop-i
invariant-loop-i l = record {
  in_heap : All (λ (i : ℕ). block_words * l.b + i < length l.heap) l.i-iterator;
  done : (i : ℕ) → bit_set l.refs i ≡ is_in i l.yielded && ref_at l.heap (block_words * l.b + i);
}

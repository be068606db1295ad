-- `search::first_bad_in` meets its contract: no bit passed is bad. Assumes nothing.
use Prim.Native.Nat.{ℕ, ◌+◌, ◌*◌}
use Rattle.std.specs.List.{All}
use Rattle.meaning.specs.Limits.{block_words}
use Rattle.search.specs.Search.{HoldsRef, lost_at}
use Rattle.search.proofs.PassingBits.{NoneOf}
use Rattle.search.proofs.first_bad_in.Given as goal

abbrev pub invariant-loop-i : goal.invariant-loop-i
invariant-loop-i l = record {
  hold_refs : All (λ (i : ℕ). HoldsRef l.heap (block_words * l.b + i)) l.i-iterator;
  none : NoneOf (λ (i : ℕ). lost_at l.heap l.marks (block_words * l.b + i)) l.yielded;
}

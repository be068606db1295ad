-- `search::first_bad_in` meets its contract. Assumes nothing.
use mathlib.Core.Path.{◌≡◌, sym, ap}
use mathlib.Core.Bool.{not, true≢false}
use Prim.Native.Nat.{ℕ, ◌+◌, ◌*◌}
use Rattle.std.proofs.lemmas.List.Elements.{All-head, All-tail}
use Rattle.meaning.specs.Limits.{block_words}
use Rattle.meaning.specs.Places.{bit_set}
use Rattle.bits.specs.SetBits.{set_places}
use Rattle.bits.proofs.SetPlaces.{Turn, all_set, set_turn, set_end}
use Rattle.search.specs.Search.{HoldsRef}
use Rattle.search.proofs.PassingBits.{none_next, found_here, found_none}
use Rattle.search.proofs.first_bad_in.Goals as goal
use Rattle.search.proofs.first_bad_in.Goals.{In-Some}

-- the loop goes over the set bits of `refs`
turn : (c : In-Some) → Turn (bit_set c.args.refs) block_words c.loop-i.yielded c.in-Some.i
turn c = set_turn c.args.refs (cc) _ _ c.loop-i.yielded_by _ _ c.in-Some.ensures.steps

pub loop-i-init : goal.loop-i-init
loop-i-init c = let start : c.into_iter-i-iterator.result ≡ set_places c.args.refs = cc in
    record { hold_refs = rw start (all_set (λ (i : ℕ). HoldsRef c.args.heap.now (block_words * c.args.b + i)) _ c.requires); none = λ i h. absurd (true≢false (sym h)) }

pub target_marked-requires : goal.target_marked-requires
target_marked-requires c = (All-head (λ (i : ℕ). HoldsRef c.args.heap.now (block_words * c.args.b + i)) c.in-Some.i _ (rw c.in-Some.ensures.steps at c.loop-i.invariant.hold_refs)).1

pub returns-then-not-target_marked : goal.returns-then-not-target_marked
returns-then-not-target_marked c =
    found_here _ _ _ _ _ (turn (goal.at.returns-then-not-target_marked c).In-Some) c.loop-i.invariant.none (rw (← c.target_marked.ensures) (ap not c.if-not-target_marked.true))

pub loop-i-preserved : goal.loop-i-preserved
loop-i-preserved c = record {
  hold_refs = All-tail (λ (i : ℕ). HoldsRef c.args.heap.now (block_words * c.args.b + i)) c.in-Some.i _ (rw c.in-Some.ensures.steps at c.loop-i.invariant.hold_refs);
  none = none_next _ _ _ c.loop-i.invariant.none (rw (← c.target_marked.ensures) (ap not c.if-not-target_marked.false));
}

pub returns : goal.returns
returns c = found_none block_words _ _ _ (set_end c.args.refs (cc) _ _ c.loop-i.yielded_by c.in-None.ensures.steps.0 c.ranges.refs.fits) c.loop-i.invariant.none

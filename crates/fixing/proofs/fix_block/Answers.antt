-- `fixing::fix_block` meets its contract: the references at the bits so far are sent on. Assumes nothing.
use Rattle.std.proofs.Common.{◌≡◌, ℕ, Bool, ◌+◌, ◌*◌, ◌/◌, ◌%◌, ◌<◌, ◌&&◌, length, length-set, eqb, ap, sym}
use mathlib.Core.Bool.{and-false}
use Rattle.std.proofs.lemmas.List.Elements.{All-tail}
use Rattle.meaning.specs.Limits.{block_words}
use Rattle.meaning.specs.Places.{bit_set, is_in}
use Rattle.bits.specs.SetBits.{set_places}
use Rattle.bits.proofs.SetPlaces.{Turn, set_turn, set_end}
use Rattle.fixing.proofs.SentOn.{fixed_none, fixed_same, next_refers, next_sent, refs_in_heap}
use Rattle.fixing.proofs.fix_block.Goals as goal
use Rattle.fixing.proofs.fix_block.Goals.{In-Some}

turn : (c : In-Some) → Turn (bit_set c.args.word) block_words c.loop-i.yielded c.in-Some.i
turn c = set_turn c.args.word (cc) _ _ c.loop-i.yielded_by _ _ c.in-Some.ensures.steps

pub loop-i-init : goal.loop-i-init
loop-i-init c =
    let start : c.into_iter-i-iterator.result ≡ set_places c.args.word = cc in record {
      in_heap = rw start (refs_in_heap _ _ _ _ c.requires);
      sent = fixed_none _ _ _ (λ q. and-false _);
    }

pub sent_on-requires : goal.sent_on-requires
sent_on-requires c = let n = next_refers _ _ _ _ (turn (goal.at.sent_on-requires c).In-Some) _ _ _ c.loop-i.invariant.sent _ c.requires in (n.holds_ref, n.target)

pub loop-i-preserved : goal.loop-i-preserved
loop-i-preserved c =
    let t = turn (goal.at.loop-i-preserved c).In-Some in
    let n = next_refers _ _ _ _ t _ _ _ c.loop-i.invariant.sent _ c.requires in record {
      in_heap = rw length-set (All-tail (λ (i : ℕ). block_words * c.args.b + i < length c.loop-i.heap) c.in-Some.i _ (rw c.in-Some.ensures.steps at c.loop-i.invariant.in_heap));
      sent = next_sent _ _ _ _ t _ _ _ c.loop-i.invariant.sent _ n.in_heap c.sent_on.ensures;
    }

pub returns : goal.returns
returns c =
    let all : (i : ℕ) → is_in i c.loop-i.yielded ≡ bit_set c.args.word i = set_end c.args.word (cc) _ _ c.loop-i.yielded_by c.in-None.ensures.steps.0 c.ranges.word.fits in
    fixed_same _ _ _ _ _ (λ q. ap (λ (t : Bool). eqb (q / block_words) c.args.b && t) (sym (all (q % block_words)))) c.loop-i.invariant.sent

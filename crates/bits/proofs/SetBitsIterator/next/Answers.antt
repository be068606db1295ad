-- `SetBits::next` meets its contract. Assumes nothing.
use mathlib.Core.Path.{sym, ap, ◌∙◌}
use native.Mathlib.Omega.{arith}
use lib.ListN.{length}
use Rattle.bits.specs.SetBits.{set_places}
use Rattle.bits.proofs.SetPlaces.{set_none, set_next}
use Rattle.bits.proofs.SetBitsIterator.next.Goals as goal

pub returns-then-self-eq0-clause-steps : goal.returns-then-self-eq0-clause-steps
returns-then-self-eq0-clause-steps c = let e = sym c.self.view_is ∙ ap set_places c.if-self-eq0.true ∙ set_none in (e, e)

pub returns-clause-steps : goal.returns-clause-steps
returns-clause-steps c = sym c.self.view_is ∙ set_next c.self.inside.0 c.if-self-eq0.false (omega arith)

pub returns-clause-goes : goal.returns-clause-goes
returns-clause-goes c =
    let e = sym c.self.view_is ∙ set_next c.self.inside.0 c.if-self-eq0.false (omega arith) in
    record { on = λ _. (tt, tt, omega (arith, ap length e)); keeps = tt; rests = λ _. tt }

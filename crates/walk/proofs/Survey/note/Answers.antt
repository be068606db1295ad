-- `note` meets its contract. Assumes nothing.
use mathlib.Core.Path.{ap, ap₂}
use mathlib.Core.Bool.{◌&&◌}
use native.Mathlib.Omega.{arith}
use Rattle.headers.specs.Paper.{is_record}
use Rattle.walk.proofs.WalkLaws.{gains_off, gains_on}
use Rattle.walk.proofs.Survey.note.Goals as goal

pub returns-in-Record : goal.returns-in-Record
returns-in-Record c =
    record {
      header_gained = c.set_part.ensures;
      words_gained = gains_on _ _ _ _ _ c.if-kept.true (omega arith) c.set_range.ensures;
      fields_gained = gains_on _ _ _ _ _ (ap₂ ◌&&◌ c.if-kept.true (ap is_record c.in-Record.is)) (omega arith) c.set_range-in-Record.ensures;
    }

pub returns-in-Raw : goal.returns-in-Raw
returns-in-Raw c =
    record {
      header_gained = c.set_part.ensures;
      words_gained = gains_on _ _ _ _ _ c.if-kept.true (omega arith) c.set_range.ensures;
      fields_gained = gains_off _ _ _ _ (ap₂ ◌&&◌ c.if-kept.true (ap is_record c.in-Raw.is));
    }

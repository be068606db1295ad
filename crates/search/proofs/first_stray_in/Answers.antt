-- `search::first_stray_in` meets its contract. Assumes nothing.
use mathlib.Core.Path.{◌∙◌}
use Rattle.meaning.specs.Limits.{block_words}
use Rattle.bits.proofs.SetPlaces.{first_set}
use Rattle.search.proofs.FirstPlace.{first_and_not}
use Rattle.search.proofs.first_stray_in.Goals as goal

pub returns : goal.returns
returns c =
    first_set _ c.set_bits.result _ _ c.set_bits.ensures c.next.ensures.steps
    ∙ first_and_not block_words c.args.marks c.args.headers c.ranges.marks.fits c.ranges.headers.fits

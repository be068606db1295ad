-- `bits::set_part` meets its contract. Assumes nothing.
use Rattle.bits.proofs.Ranges.{gains_part}
use Rattle.bits.proofs.set_part.Goals as goal

pub returns : goal.returns
returns c = gains_part c.args.map.now c.args.at c.args.k c.fill_word.result c.requires.2 c.requires.1 c.fill_word.ensures

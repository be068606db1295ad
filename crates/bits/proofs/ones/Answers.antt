-- `bits::ones` meets its contract. Assumes nothing.
use Rattle.meaning.specs.Limits.{block_words}
use Rattle.bits.proofs.Words.{ones_below}
use Rattle.bits.proofs.ones.Goals as goal

pub returns : goal.returns
returns c = ones_below block_words c.args.word c.ranges.word.fits

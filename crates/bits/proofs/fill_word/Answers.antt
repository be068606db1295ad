-- `bits::fill_word` meets its contract: a run of ones, shifted. Assumes nothing.
use Rattle.meaning.specs.Limits.{block_words}
use Rattle.bits.proofs.Ranges.{bit_filled}
use Rattle.bits.proofs.fill_word.Goals as goal

pub returns : goal.returns
returns c j = bit_filled block_words c.args.word c.args.i c.args.k j c.requires.1

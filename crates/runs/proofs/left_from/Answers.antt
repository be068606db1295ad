-- `runs::left_from` meets its contract. Assumes nothing.
use Rattle.meaning.specs.Limits.{block_words}
use Rattle.runs.proofs.RunsOfBits.{left_shifted}
use Rattle.runs.proofs.left_from.Goals as goal

pub returns : goal.returns
returns c = left_shifted block_words c.args.word c.args.at c.requires.0 c.ranges.word.fits c.requires.1

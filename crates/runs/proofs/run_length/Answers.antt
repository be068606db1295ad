-- `runs::run_length` meets its contract. Assumes nothing.
use Rattle.meaning.specs.Limits.{block_words}
use Rattle.runs.proofs.RunsOfBits.{run_min}
use Rattle.runs.proofs.run_length.Goals as goal

pub returns : goal.returns
returns c = rw c.min.ensures (run_min block_words c.args.word c.args.z c.ranges.word.fits c.requires.0 c.requires.1 c.args.most c.requires.2)

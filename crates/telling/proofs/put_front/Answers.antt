-- `put_front` meets its contract: the values in front are what `sets` puts there. Assumes nothing.
use Rattle.std.proofs.Common.{arith}
use Rattle.std.proofs.lemmas.Grind.{common_steps}
use Rattle.std.proofs.lemmas.List.Edits.{sets-eq}
use Rattle.telling.proofs.put_front.Goals as goal

pub returns : goal.returns
returns g c = grind (arith, common_steps, sets-eq)

use Rattle.script_run.proofs.Fronts.{nothing-front}
use Rattle.script_run.proofs.laws.nothing_is_front.Goals as goal

pub returns : goal.returns
returns c = nothing-front

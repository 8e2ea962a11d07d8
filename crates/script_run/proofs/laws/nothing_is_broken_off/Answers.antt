use Rattle.script_run.proofs.Going.{nothing-broken}
use Rattle.script_run.proofs.laws.nothing_is_broken_off.Goals as goal

pub returns : goal.returns
returns c = nothing-broken c.laws.ensures

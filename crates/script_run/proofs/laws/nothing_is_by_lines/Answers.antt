use Rattle.script_run.proofs.Going.{nothing-by_lines}
use Rattle.script_run.proofs.laws.nothing_is_by_lines.Goals as goal

pub returns : goal.returns
returns c = nothing-by_lines

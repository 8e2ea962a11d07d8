use Rattle.std.proofs.Common.{rules}
use Rattle.script_run.proofs.with_workers.script_with_workers.Goals as goal

pub returns-clause-crewed : goal.returns-clause-crewed
returns-clause-crewed g c = let m = c.run_crew.ensures.main in (m.0, m.1, m.3, search rules, m.5)

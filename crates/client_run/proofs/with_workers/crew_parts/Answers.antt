use Rattle.std.proofs.Common.{rules}
use Rattle.client_run.proofs.with_workers.crew_parts.Goals as goal

pub returns-clause-crewed : goal.returns-clause-crewed
returns-clause-crewed g c = let m = c.run_crew.ensures.main in (m.1, search rules, search rules, m.5)

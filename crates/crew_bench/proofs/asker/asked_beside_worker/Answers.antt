use Rattle.std.proofs.Common.{rules}
use Rattle.crew_bench.proofs.Readiness.{first_passes}
use Rattle.crew_bench.proofs.asker.asked_beside_worker.Goals as goal

pub run_crew-passes-requires-clause-first : goal.run_crew-passes-requires-clause-first
run_crew-passes-requires-clause-first g c κs within = first_passes _ (search rules) (search rules)

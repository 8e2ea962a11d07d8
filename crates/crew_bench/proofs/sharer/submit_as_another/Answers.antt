use Rattle.std.proofs.Common.{arith}
use Rattle.turn_lock.specs.Passes.{knows}
use Rattle.crew_bench.proofs.Readiness.{other_submits, other_open}
use Rattle.crew_bench.proofs.sharer.submit_as_another.Goals as goal

pub submit-requires-clause-caller : goal.submit-requires-clause-caller
submit-requires-clause-caller g c κs within = other_submits c.args.pipe 17 (knows c.args.pass) (knows c.split-other.result.1) (omega arith) c.split-other.ensures.second c.requires.shared

pub submit-requires-clause-pipe : goal.submit-requires-clause-pipe
submit-requires-clause-pipe g c κs within = let r = c.requires.ready in other_open c.args.pipe 17 (knows c.args.pass) (knows c.split-other.result.1) c.split-other.ensures.second r.0

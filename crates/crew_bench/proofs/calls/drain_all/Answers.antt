use Rattle.turn_lock.specs.Passes.{knows}
use Rattle.crew_bench.proofs.Readiness.{nothing, first_drained}
use Rattle.crew_bench.proofs.calls.drain_all.Goals as goal

pub returns-clause-first : goal.returns-clause-first
returns-clause-first g c = first_drained nothing (c.board_laws.ensures nothing) _ _ _ _ (knows c.args.pass) (knows c.drain.result.0) c.drain.result.1 _ _ c.drain.ensures.drained

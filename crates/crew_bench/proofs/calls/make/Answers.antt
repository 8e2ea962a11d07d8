use Rattle.std.proofs.Common.{refl}
use Rattle.turn_lock.specs.Passes.{knows}
use Rattle.crew_bench.proofs.Readiness.{nothing, made_first, made_ready}
use Rattle.crew_bench.proofs.calls.make.Goals as goal

pub returns-clause-first : goal.returns-clause-first
returns-clause-first g c = made_first nothing (c.board_laws.ensures nothing) (knows c.args.pass) (knows c.born_pad.result.0) c.born_pad.result.1 _ _ _ (λ x. refl) c.born_pad.ensures.turn

pub returns-clause-ready : goal.returns-clause-ready
returns-clause-ready g c = made_ready nothing (c.board_laws.ensures nothing) 16 (knows c.args.pass) (knows c.born_pad.result.0) c.born_pad.result.1 _ _ c.born_pad.ensures.turn

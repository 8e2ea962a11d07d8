use Rattle.std.proofs.Common.{refl}
use Rattle.turn_lock.specs.Passes.{knows}
use Rattle.board.specs.declared.entry.BoardEntry.TheVariants.{Submit}
use Rattle.crew_bench.proofs.Readiness.{nothing, submits, submitted}
use Rattle.crew_bench.proofs.calls.submit_one.Goals as goal

pub submit-requires-clause-caller : goal.submit-requires-clause-caller
submit-requires-clause-caller g c κs within = submits c.args.pipe (knows c.args.pass) c.requires.ready

pub returns-clause-ready : goal.returns-clause-ready
returns-clause-ready g c =
    (submitted nothing (c.board_laws.ensures nothing) (knows c.args.pass) (knows c.submit.result.0) c.submit.result.1 _ _ (λ n ask. Submit (knows c.args.pass).number c.args.pipe n ask) _ _ _ (λ x i. (refl, refl)) c.args.pipe c.requires.ready c.submit.ensures.turn).0

pub returns-clause-first : goal.returns-clause-first
returns-clause-first g c =
    (submitted nothing (c.board_laws.ensures nothing) (knows c.args.pass) (knows c.submit.result.0) c.submit.result.1 _ _ (λ n ask. Submit (knows c.args.pass).number c.args.pipe n ask) _ _ _ (λ x i. (refl, refl)) c.args.pipe c.requires.ready c.submit.ensures.turn).1

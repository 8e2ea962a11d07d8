use Rattle.std.proofs.Common.{ap, ◌∙◌, Ok, [], subst, sym}
use Rattle.turn_lock.specs.Passes.{knows}
use Rattle.shared_registry.specs.Builds.{Ends}
use Rattle.shared_registry.proofs.Waiting.{idles_still, began_on, still_waits, lacked, has_waited, has_ended}
use Rattle.shared_registry.proofs.builds.wait_for.Goals as goal

pub loop-init : goal.loop-init
loop-init g c = (c.requires.ready.lock, idles_still (knows c.args.pass) c.requires.ready.sound)

pub waited-back-requires-clause-began : goal.waited-back-requires-clause-began
waited-back-requires-clause-began g c = began_on (knows c.args.pass) (knows c.loop.mine) [] c.args.larval c.loop.invariant.1.goes c.requires.began

pub loop-preserved : goal.loop-preserved
loop-preserved g c = (
  c.waited-back.ensures.lock,
  still_waits (knows c.args.pass) (knows c.loop.mine) (knows c.waited-back.result.0) c.args.larval c.waited-back.result.1 c.loop.invariant.1 c.waited-back.ensures.turn c.waited-back.ensures.sound (c.in-Ok.is ∙ ap Ok c.in-None-answer.is),
)

pub returns-in-Some-answer-clause-works : goal.returns-in-Some-answer-clause-works
returns-in-Some-answer-clause-works g c =
    has_waited (knows c.args.pass) (knows c.loop.mine) (knows c.waited-back.result.0) c.args.larval c.waited-back.result.1 c.loop.invariant.1 c.waited-back.ensures.turn c.waited-back.ensures.sound c.in-Some-answer.ended
    (c.in-Ok.is ∙ ap Ok c.in-Some-answer.is)

pub returns-in-Some-answer-clause-ends : goal.returns-in-Some-answer-clause-ends
returns-in-Some-answer-clause-ends g c =
    subst (Ends (knows c.waited-back.result.0) c.args.larval) (sym c.came_of.ensures)
    (has_ended (knows c.args.pass) (knows c.loop.mine) (knows c.waited-back.result.0) c.args.larval c.waited-back.result.1 c.loop.invariant.1 c.waited-back.ensures.turn c.waited-back.ensures.sound c.requires.laws c.in-Some-answer.ended
    (c.in-Ok.is ∙ ap Ok c.in-Some-answer.is))

pub returns-in-Err-clause-works : goal.returns-in-Err-clause-works
returns-in-Err-clause-works g c =
    lacked (knows c.args.pass) (knows c.loop.mine) (knows c.waited-back.result.0) c.args.larval c.waited-back.result.1 c.loop.invariant.1 c.waited-back.ensures.turn c.waited-back.ensures.sound c.in-Err.field-0 c.in-Err.is

use Rattle.std.proofs.Common.{ap, ◌∙◌, Ok, []}
use Rattle.turn_lock.specs.Passes.{knows}
use Rattle.shared_registry.proofs.Waiting.{idles_still, began_on, still_waits}
use Rattle.shared_registry.proofs.tests.ask_until.Goals as goal

pub loop-init : goal.loop-init
loop-init g c = (c.requires.lock, idles_still (knows c.args.pass) c.requires.sound)

pub waited-back-requires-clause-began : goal.waited-back-requires-clause-began
waited-back-requires-clause-began g c = began_on (knows c.args.pass) (knows c.loop.mine) [] c.args.larval c.loop.invariant.1.goes c.requires.began

pub loop-preserved : goal.loop-preserved
loop-preserved g c = (
  c.waited-back.ensures.lock,
  still_waits (knows c.args.pass) (knows c.loop.mine) (knows c.waited-back.result.0) c.args.larval c.waited-back.result.1 c.loop.invariant.1 c.waited-back.ensures.turn c.waited-back.ensures.sound (c.in-Ok.is ∙ ap Ok c.in-None.is),
)

use Rattle.turn_lock.specs.Passes.{knows}
use Rattle.crew.proofs.both.build_if_any.Goals as goal

pub returns-then-not-may_build-clause-works : goal.returns-then-not-may_build-clause-works
returns-then-not-may_build-clause-works g c = c.building_goes_on.ensures.still (knows c.args.pass)

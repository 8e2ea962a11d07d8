use Rattle.alg_names.specs.Name.{spelling}
use Rattle.turn_lock.specs.Passes.{knows}
use Rattle.shared_registry.proofs.Clients.{answered_on}
use Rattle.shared_registry.proofs.tests.probe_both.Goals as goal

pub settle-pass-requires-2-clause-answered : goal.settle-pass-requires-2-clause-answered
settle-pass-requires-2-clause-answered g c =
    answered_on (knows c.look_both-pass.result.0) (knows c.settle-pass.result.0) c.settle-pass.ensures.works.work (spelling c.args.second.now) c.look_both-pass.result.2 c.settle-pass.ensures.works.goes c.look_both-pass.ensures.answered_second

use Rattle.alg_names.specs.Name.{spelling}
use Rattle.turn_lock.specs.Passes.{knows}
use Rattle.shared_registry.proofs.Outcomes.{resolved}
use Rattle.shared_registry.proofs.builds.resolve.Goals as goal

pub returns-clause-looked : goal.returns-clause-looked
returns-clause-looked g c = resolved c.learn_name.ensures.laws (knows c.args.pass) (knows c.resolve_within.result.0) (spelling c.args.name.now) c.args.plain c.resolve_within.result.1 c.resolve_within.ensures.resolves

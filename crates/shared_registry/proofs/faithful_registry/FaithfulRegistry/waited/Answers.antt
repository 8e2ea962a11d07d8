use Rattle.shared_registry.proofs.Keeping.{waited_entry}
use Rattle.alg_registry.specs.Legal.{ended_as}
use Rattle.shared_registry.proofs.faithful_registry.FaithfulRegistry.waited.Goals as goal

pub invariant_of-self : goal.invariant_of-self
invariant_of-self c =
    waited_entry c.self.inside.registry c.waited.new.self c.waited.ensures.legal c.self.invariant c.waited.result c.args.caller c.args.larval (ended_as c.self.inside.registry c.args.larval) c.waited.ensures.history c.waited.ensures.unchanged

pub returns-clause-faithful : goal.returns-clause-faithful
returns-clause-faithful c =
    waited_entry c.self.inside.registry c.waited.new.self c.waited.ensures.legal c.self.invariant c.waited.result c.args.caller c.args.larval (ended_as c.self.inside.registry c.args.larval) c.waited.ensures.history c.waited.ensures.unchanged

use Rattle.alg_registry.specs.declared.entry.RegEntry.TheVariants.{Refs}
use Rattle.shared_registry.proofs.Keeping.{unless_memory_entry}
use Rattle.shared_registry.proofs.faithful_registry.FaithfulRegistry.refs.Goals as goal

pub invariant_of-self : goal.invariant_of-self
invariant_of-self c =
    unless_memory_entry c.self.inside.registry c.refs.new.self c.refs.ensures.legal c.self.invariant c.refs.result (Refs c.args.caller c.args.driver.now) c.refs.ensures.history c.refs.ensures.memory tt

pub returns-clause-faithful : goal.returns-clause-faithful
returns-clause-faithful c =
    unless_memory_entry c.self.inside.registry c.refs.new.self c.refs.ensures.legal c.self.invariant c.refs.result (Refs c.args.caller c.args.driver.now) c.refs.ensures.history c.refs.ensures.memory tt

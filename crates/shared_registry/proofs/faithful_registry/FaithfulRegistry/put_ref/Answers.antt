use Rattle.alg_registry.specs.declared.entry.RegEntry.TheVariants.{Put}
use Rattle.shared_registry.proofs.Keeping.{with_entry}
use Rattle.shared_registry.proofs.faithful_registry.FaithfulRegistry.put_ref.Goals as goal

pub invariant_of-self : goal.invariant_of-self
invariant_of-self c =
    with_entry c.self.inside.registry c.put_ref.new.self c.put_ref.ensures.legal c.self.invariant (Put c.args.caller c.args.id) c.put_ref.ensures.history tt

pub returns-clause-faithful : goal.returns-clause-faithful
returns-clause-faithful c =
    with_entry c.self.inside.registry c.put_ref.new.self c.put_ref.ensures.legal c.self.invariant (Put c.args.caller c.args.id) c.put_ref.ensures.history tt

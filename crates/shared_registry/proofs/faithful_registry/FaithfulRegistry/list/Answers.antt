use Rattle.alg_registry.specs.declared.entry.RegEntry.TheVariants.{List as Lists}
use Rattle.shared_registry.proofs.Keeping.{ok_entry}
use Rattle.shared_registry.proofs.faithful_registry.FaithfulRegistry.list.Goals as goal

pub invariant_of-self : goal.invariant_of-self
invariant_of-self c =
    ok_entry c.self.inside.registry c.list.new.self c.list.ensures.legal c.self.invariant c.list.result (Lists c.args.caller) c.list.ensures.history c.list.ensures.unchanged tt

pub returns-clause-faithful : goal.returns-clause-faithful
returns-clause-faithful c =
    ok_entry c.self.inside.registry c.list.new.self c.list.ensures.legal c.self.invariant c.list.result (Lists c.args.caller) c.list.ensures.history c.list.ensures.unchanged tt

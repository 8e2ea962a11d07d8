use Rattle.alg_registry.specs.declared.entry.RegEntry.TheVariants.{Get}
use Rattle.shared_registry.proofs.Keeping.{unless_memory_entry}
use Rattle.alg_registry.specs.Rows.{is_listed}
use Rattle.shared_registry.proofs.faithful_registry.FaithfulRegistry.take_ref.Goals as goal

pub invariant_of-self : goal.invariant_of-self
invariant_of-self c =
    unless_memory_entry c.self.inside.registry c.take_ref.new.self c.take_ref.ensures.legal c.self.invariant c.take_ref.result (Get c.args.caller c.args.id (is_listed c.self.inside.registry c.args.id)) c.take_ref.ensures.history c.take_ref.ensures.memory tt

pub returns-clause-faithful : goal.returns-clause-faithful
returns-clause-faithful c =
    unless_memory_entry c.self.inside.registry c.take_ref.new.self c.take_ref.ensures.legal c.self.invariant c.take_ref.result (Get c.args.caller c.args.id (is_listed c.self.inside.registry c.args.id)) c.take_ref.ensures.history c.take_ref.ensures.memory tt

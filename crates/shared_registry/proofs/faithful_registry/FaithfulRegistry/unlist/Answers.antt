use Rattle.alg_registry.specs.declared.entry.RegEntry.TheVariants.{Unlist}
use Rattle.shared_registry.proofs.Keeping.{unless_memory_entry}
use Rattle.alg_registry.specs.Rows.{rows_of}
use Rattle.alg_registry.specs.Answers.{driver_place}
use Rattle.shared_registry.proofs.faithful_registry.FaithfulRegistry.unlist.Goals as goal

pub invariant_of-self : goal.invariant_of-self
invariant_of-self c =
    unless_memory_entry c.self.inside.registry c.unlist.new.self c.unlist.ensures.legal c.self.invariant c.unlist.result (Unlist c.args.caller c.args.driver.now (driver_place (rows_of c.self.inside.registry) c.args.driver.now)) c.unlist.ensures.history c.unlist.ensures.memory tt

pub returns-clause-faithful : goal.returns-clause-faithful
returns-clause-faithful c =
    unless_memory_entry c.self.inside.registry c.unlist.new.self c.unlist.ensures.legal c.self.invariant c.unlist.result (Unlist c.args.caller c.args.driver.now (driver_place (rows_of c.self.inside.registry) c.args.driver.now)) c.unlist.ensures.history c.unlist.ensures.memory tt

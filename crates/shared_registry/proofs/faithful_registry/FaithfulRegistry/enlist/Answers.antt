use Rattle.alg_registry.specs.declared.entry.RegEntry.TheVariants.{Enlist}
use Rattle.shared_registry.proofs.Keeping.{unless_memory_entry}
use Rattle.alg_registry.specs.Rows.{rows_of}
use Rattle.alg_registry.specs.Answers.{enlist_answer}
use Rattle.shared_registry.proofs.faithful_registry.FaithfulRegistry.enlist.Goals as goal

pub invariant_of-self : goal.invariant_of-self
invariant_of-self c =
    unless_memory_entry c.self.inside.registry c.enlist.new.self c.enlist.ensures.legal c.self.invariant c.enlist.result (Enlist c.args.caller c.args.spec (enlist_answer (rows_of c.self.inside.registry) c.args.spec)) c.enlist.ensures.history c.enlist.ensures.memory c.requires.driver

pub returns-clause-faithful : goal.returns-clause-faithful
returns-clause-faithful c =
    unless_memory_entry c.self.inside.registry c.enlist.new.self c.enlist.ensures.legal c.self.invariant c.enlist.result (Enlist c.args.caller c.args.spec (enlist_answer (rows_of c.self.inside.registry) c.args.spec)) c.enlist.ensures.history c.enlist.ensures.memory c.requires.driver

use Rattle.std.proofs.Common.{arith, ◌∙◌}
use Rattle.trace_check.specs.Registers.{is_of}
use Rattle.trace_check.proofs.Changes.{found_within, without_found, without_none}
use Rattle.trace_check.proofs.Boarding.{none_left}
use Rattle.trace_check.proofs.table_steps.drop_reference.Goals as goal

pub remove-requires : goal.remove-requires
remove-requires c = (let w = found_within (is_of c.args.caller c.args.id) c.args.references.now.items c.in-Some.place (cc) in omega arith)

pub returns-in-Some : goal.returns-in-Some
returns-in-Some c = c.remove.ensures.items ∙ without_found (is_of c.args.caller c.args.id) c.args.references.now.items c.in-Some.place (cc)

pub returns-in_default : goal.returns-in_default
returns-in_default c = without_none (is_of c.args.caller c.args.id) c.args.references.now.items 0 (let n = none_left c.reference_place.result c.in_default.not-Some in cc)

use Rattle.std.proofs.Common.{List, sym, subst}
use Rattle.alg_registry.specs.declared.entry.RegEntry.{RegEntry}
use Rattle.alg_registry.specs.declared.entry.RegEntry.TheVariants.{Look}
use Rattle.alg_registry.specs.declared.entry.Looked.TheVariants.{Absent}
use Rattle.alg_registry.specs.Made.{IsMade}
use Rattle.templates.specs.Table.{table}
use Rattle.shared_registry.proofs.Keeping.{look_entry}
use Rattle.shared_registry.proofs.faithful_registry.FaithfulRegistry.look.Goals as goal

pub invariant_of-self : goal.invariant_of-self
invariant_of-self c =
    look_entry c.self.inside.registry c.look.new.self c.look.ensures.legal c.self.invariant c.look.result c.args.caller c.args.text.now c.args.plain c.look.ensures.history c.look.ensures.unchanged
    (subst (λ (h : List RegEntry). IsMade table h (Look c.args.caller c.args.text.now c.args.plain Absent)) (sym c.self.view_is) c.requires.next)

pub returns-clause-faithful : goal.returns-clause-faithful
returns-clause-faithful c =
    look_entry c.self.inside.registry c.look.new.self c.look.ensures.legal c.self.invariant c.look.result c.args.caller c.args.text.now c.args.plain c.look.ensures.history c.look.ensures.unchanged
    (subst (λ (h : List RegEntry). IsMade table h (Look c.args.caller c.args.text.now c.args.plain Absent)) (sym c.self.view_is) c.requires.next)

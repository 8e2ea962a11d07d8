use Rattle.std.proofs.Common.{List, sym, subst}
use Rattle.alg_registry.specs.declared.entry.RegEntry.{RegEntry}
use Rattle.alg_registry.specs.declared.entry.RegEntry.TheVariants.{End}
use Rattle.alg_registry.specs.Rows.{rows_of}
use Rattle.alg_registry.specs.Calls.{end_given, unless_memory}
use Rattle.alg_registry.specs.Made.{IsMade}
use Rattle.templates.specs.Table.{table}
use Rattle.shared_registry.proofs.Keeping.{with_entry}
use Rattle.shared_registry.proofs.Turning.{made_unless}
use Rattle.shared_registry.proofs.faithful_registry.FaithfulRegistry.end.Goals as goal

pub invariant_of-self : goal.invariant_of-self
invariant_of-self c =
    with_entry c.self.inside.registry c.end.new.self c.end.ensures.legal c.self.invariant (End c.args.caller c.args.larval (unless_memory c.end.result (end_given (rows_of c.self.inside.registry) c.args.built))) c.end.ensures.history
    (made_unless c.self.inside.registry c.args.caller c.args.larval c.end.result (end_given (rows_of c.self.inside.registry) c.args.built)
    (subst (λ (h : List RegEntry). IsMade table h (End c.args.caller c.args.larval (end_given (rows_of h) c.args.built))) (sym c.self.view_is) c.requires.made))

pub returns-clause-faithful : goal.returns-clause-faithful
returns-clause-faithful c =
    with_entry c.self.inside.registry c.end.new.self c.end.ensures.legal c.self.invariant (End c.args.caller c.args.larval (unless_memory c.end.result (end_given (rows_of c.self.inside.registry) c.args.built))) c.end.ensures.history
    (made_unless c.self.inside.registry c.args.caller c.args.larval c.end.result (end_given (rows_of c.self.inside.registry) c.args.built)
    (subst (λ (h : List RegEntry). IsMade table h (End c.args.caller c.args.larval (end_given (rows_of h) c.args.built))) (sym c.self.view_is) c.requires.made))

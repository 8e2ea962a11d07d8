use Rattle.std.proofs.Common.{sym, ◌∙◌, ap}
use Rattle.alg_names.specs.Name.{args_of}
use Rattle.alg_names.specs.Built.{list_of-args_from, nodes_fewer}
use Rattle.alg_names.proofs.name_tree.Name.args.Goals as goal

pub returns-clause-args : goal.returns-clause-args
returns-clause-args c = c.as_slice.ensures.value ∙ sym (list_of-args_from c.self.inside.arguments.items) ∙ ap args_of c.self.view_is

pub returns-clause-smaller : goal.returns-clause-smaller
returns-clause-smaller c k d lt =
    nodes_fewer c.args.self.now c.as_slice.result.now k d (c.as_slice.ensures.value ∙ sym (list_of-args_from c.self.inside.arguments.items) ∙ ap args_of c.self.view_is) lt

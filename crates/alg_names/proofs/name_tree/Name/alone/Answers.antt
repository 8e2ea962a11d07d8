use Rattle.std.proofs.Common.{sym, subst}
use Rattle.alg_names.specs.Name.{IsAllowed, node}
use Rattle.alg_names.specs.Built.{args_from}
use Rattle.alg_names.proofs.Remade.{word_allowed}
use Rattle.alg_names.proofs.name_tree.Name.alone.Goals as goal

pub invariant_of-result : goal.invariant_of-result
invariant_of-result c = subst (λ xs. IsAllowed (node c.args.word (args_from xs))) (sym c.new.ensures.items) (word_allowed c.args.word c.requires.word c.requires.short)

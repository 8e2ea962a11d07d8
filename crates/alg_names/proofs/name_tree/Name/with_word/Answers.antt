use Rattle.std.proofs.Common.{length, ap, arith}
use Rattle.alg_names.specs.Name.{word_of}
use Rattle.alg_names.specs.Built.{args_from}
use Rattle.alg_names.proofs.Remade.{renamed_allowed}
use Rattle.alg_names.proofs.name_tree.Name.with_word.Goals as goal

pub invariant_of-result : goal.invariant_of-result
invariant_of-result c =
    renamed_allowed c.self.inside.word c.args.word (args_from c.self.inside.arguments.items) c.self.invariant c.requires.word (omega (arith, c.requires.short, ap (λ t. length (word_of t)) c.self.view_is))

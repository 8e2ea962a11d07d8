use Rattle.std.proofs.Common.{refl, inr, ap, ◌∙◌, arith}
use Rattle.alg_names.specs.Built.{args_from}
use Rattle.alg_names.proofs.Drafted.{count-args_from, args_from-push}
use Rattle.alg_names.proofs.draft.with_argument.Goals as goal

pub returns-then-len-ge-MAX_ARGUMENTS-clause-err : goal.returns-then-len-ge-MAX_ARGUMENTS-clause-err
returns-then-len-ge-MAX_ARGUMENTS-clause-err c = inr (refl, omega (arith, c.len.ensures, count-args_from c.args.template.arguments.items))

pub returns-clause-ok : goal.returns-clause-ok
returns-clause-ok c = (refl, ap args_from c.in_ok-push.ensures.items ∙ args_from-push c.args.template.arguments.items c.args.name, omega (arith, c.len.ensures, count-args_from c.args.template.arguments.items))

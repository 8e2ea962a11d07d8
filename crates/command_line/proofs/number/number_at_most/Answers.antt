use Rattle.std.proofs.Common.{sym, rules}
use Rattle.command_line.proofs.NumberLemmas.{number_read, number_refused}
use Rattle.command_line.proofs.number.number_at_most.Goals as goal

pub returns-then-n-most-clause-value : goal.returns-then-n-most-clause-value
returns-then-n-most-clause-value c =
    number_read c.args.most c.in-Ok.n c.args.text.now (search rules) c.in-Ok.ensures.value.0.0.0 (sym c.in-Ok.ensures.value.0.1) (search rules)

pub returns-in-Err-clause-value : goal.returns-in-Err-clause-value
returns-in-Err-clause-value c = number_refused c.args.most c.args.text.now (search rules) c.in-Err.ensures.value.0

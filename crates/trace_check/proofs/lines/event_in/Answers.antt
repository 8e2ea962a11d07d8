use Rattle.std.proofs.Common.{sym, arith}
use Rattle.trace_check.proofs.FewWords.{few-words}
use Rattle.trace_check.proofs.lines.event_in.Goals as goal

pub returns-in_default : goal.returns-in_default
returns-in_default c = sym (few-words c.args.words.now (omega (arith, c.in_default.len_below)))

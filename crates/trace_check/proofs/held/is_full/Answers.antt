use Rattle.std.proofs.Common.{arith}
use Rattle.trace_check.proofs.Few.{few_not_full}
use Rattle.trace_check.proofs.held.is_full.Goals as goal

pub returns-then-entries-lt-MAX_HELD : goal.returns-then-entries-lt-MAX_HELD
returns-then-entries-lt-MAX_HELD c = few_not_full c.args.entries.now (omega arith)

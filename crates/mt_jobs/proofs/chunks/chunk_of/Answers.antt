use Rattle.std.proofs.Common.{arith}
use Rattle.mt_jobs.proofs.chunks.chunk_of.Goals as goal

pub returns-clause-value : goal.returns-clause-value
returns-clause-value c = grind arith

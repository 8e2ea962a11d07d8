use Rattle.std.proofs.Common.{arith}
use Rattle.aes_block.proofs.Arithmetic.{double_small, double_large}
use Rattle.aes_block.proofs.columns.double.Goals as goal

pub returns-then-a-lt128 : goal.returns-then-a-lt128
returns-then-a-lt128 c = double_small c.args.a (omega arith)

pub returns-else-a-lt128 : goal.returns-else-a-lt128
returns-else-a-lt128 c = double_large c.args.a (omega arith) (omega arith)

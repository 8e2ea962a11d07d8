use Rattle.std.proofs.Common.{arith}
use Rattle.aes_block.proofs.Mixing.{column_mixed}
use Rattle.aes_block.proofs.columns.mixed_column.Goals as goal

pub returns : goal.returns
returns c = rw (c.double.ensures, c.double-2.ensures, c.double-3.ensures, c.double-4.ensures) (column_mixed c.args.a c.args.b c.args.c c.args.d (omega arith) (omega arith) (omega arith) (omega arith))

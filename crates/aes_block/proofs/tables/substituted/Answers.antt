use Rattle.std.proofs.Common.{arith}
use Rattle.aes_block.proofs.Arithmetic.{sbox_read}
use Rattle.aes_block.proofs.tables.substituted.Goals as goal

pub returns : goal.returns
returns c = sbox_read c.args.b (omega arith)

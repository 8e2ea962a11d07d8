use Rattle.std.proofs.Common.{arith}
use Rattle.aes_block.proofs.Arithmetic.{inverse_sbox_read}
use Rattle.aes_block.proofs.tables.inverse_substituted.Goals as goal

pub returns : goal.returns
returns c = inverse_sbox_read c.args.b (omega arith)

use Rattle.std.proofs.Common.{arith}
use Rattle.std_defs.proofs.Joined.{xor_blocks_is}
use Rattle.cmac_ccm.proofs.chain.add_block.Goals as goal

pub returns : goal.returns
returns c = xor_blocks_is c.args.block.now c.args.other.now c.xor_block.new.text (omega arith) (λ k below. c.xor_block.ensures k (omega arith))

use Rattle.std.proofs.Common.{arith}
use Rattle.std_defs.proofs.Joined.{xor_blocks_is}
use Rattle.perdoaze_calls.proofs.macs.add_block.Goals as goal

pub returns : goal.returns
returns c = xor_blocks_is c.args.chain.now c.args.block.now c.xor_block.new.text (omega arith) (λ k below. c.xor_block.ensures k (omega arith))

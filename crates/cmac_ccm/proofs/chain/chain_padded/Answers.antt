use Rattle.std.proofs.Common.{refl, arith}
use Rattle.cmac_ccm.proofs.Chains.{chained_whole, chained_partial}
use Rattle.cmac_ccm.proofs.chain.chain_padded.Goals as goal

pub returns-then-bytes-ne0 : goal.returns-then-bytes-ne0
returns-then-bytes-ne0 g c =
    chained_partial (g.C.BlockCipher.sealed c.args.cipher.now) c.args.chain.now c.chain_blocks.new.chain c.filled-last.result c.chain_block.new.chain c.args.bytes.now _ _
    (omega arith) refl c.chain_blocks.ensures refl c.filled-last.ensures c.chain_block.ensures

pub returns-else-bytes-ne0 : goal.returns-else-bytes-ne0
returns-else-bytes-ne0 g c =
    chained_whole (g.C.BlockCipher.sealed c.args.cipher.now) c.args.chain.now c.chain_blocks.new.chain c.args.bytes.now _ (omega arith) refl c.chain_blocks.ensures

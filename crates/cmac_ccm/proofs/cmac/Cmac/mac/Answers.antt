use Rattle.std.proofs.Common.{refl}
use Rattle.cmac_ccm.proofs.LastBlock.{mac_is}
use Rattle.cmac_ccm.proofs.cmac.Cmac.mac.Goals as goal

pub returns : goal.returns
returns g c =
    rw (← c.self.view_is)
    (mac_is (g.C.BlockCipher.sealed c.self.inside.cipher) c.args.text.now c.chain_blocks.new.chain c.last_block-last.result c.chain_block.new.chain c.saturating_sub-before.result _
    c.saturating_sub-before.ensures c.chain_blocks.ensures refl (rw (← c.self.view_is) at c.last_block-last.ensures) c.chain_block.ensures)

use Rattle.std.proofs.Common.{◌∙◌, ap, ap₂, arith, length}
use Rattle.std_defs.specs.Blocks.{xor_blocks}
use Rattle.cmac_ccm.proofs.Associated.{chained_is}
use Rattle.cmac_ccm.proofs.Fields.{first_block-length}
use Rattle.cmac_ccm.proofs.ccm.Ccm.full_tag.Goals as goal

pub returns : goal.returns
returns g c =
    let f = g.C.BlockCipher.sealed c.self.inside.cipher in
    rw (← c.self.view_is)
    (c.add_block.ensures ∙ ap₂ xor_blocks
    (chained_is f c.args.tag_len c.args.iv.now c.args.aad.now c.args.text.now c.first_block.result c.chain_block.new.chain c.chain_associated.new.chain c.chain_padded.new.chain
    (ap length c.first_block.ensures ∙ first_block-length c.args.tag_len c.args.iv.now c.args.aad.now c.args.text.now (omega arith) c.requires.iv_taken) c.first_block.ensures c.chain_block.ensures c.chain_associated.ensures c.chain_padded.ensures)
    (c.seal_block.ensures ∙ ap f c.counter_block-pad.ensures))

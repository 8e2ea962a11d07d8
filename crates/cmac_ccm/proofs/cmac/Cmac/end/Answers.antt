use Rattle.std.proofs.Common.{ap, ◌∙◌}
use Rattle.std_defs.specs.Blocks.{xor_blocks}
use Rattle.cmac_ccm.proofs.Streamed.{takes_mac}
use Rattle.cmac_ccm.proofs.cmac.Cmac.end.Goals as goal

pub returns : goal.returns
returns g c = λ m held.
    let f = g.C.BlockCipher.sealed c.args.self.now in
    let s = c.args.message.now in
    takes_mac f s m c.last_block-last.result c.chain_block.new.chain c.last_block-last.ensures
    (c.chain_block.ensures ∙ ap (λ k. g.C.BlockCipher.sealed k (xor_blocks s.chain c.last_block-last.result)) c.cipher.ensures) held

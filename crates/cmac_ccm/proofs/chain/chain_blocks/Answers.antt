use Rattle.std.proofs.Common.{◌≡◌, ◌∙◌, ℕ, List, refl, ap, ap₂, arith, add-one}
use Rattle.std_defs.specs.Blocks.{xor_blocks}
use Rattle.std_defs.specs.Cmac.{chained}
use Rattle.cmac_ccm.proofs.chain.chain_blocks.Goals as goal

pub loop-i-init : goal.loop-i-init
unfolding chained
loop-i-init g c = refl

pub loop-i-preserved : goal.loop-i-preserved
unfolding chained
loop-i-preserved g c =
    rw add-one
    (c.chain_block.ensures ∙ ap₂ (λ (s b : List ℕ). g.C.BlockCipher.sealed c.args.cipher.now (xor_blocks s b)) c.loop-i.invariant c.block_at-block.ensures)

pub returns : goal.returns
returns g c =
    let at_end : c.loop-i.i ≡ c.args.count = omega arith in
    c.loop-i.invariant ∙ ap (chained (g.C.BlockCipher.sealed c.args.cipher.now) c.args.chain.now c.args.bytes.now) at_end

use Rattle.std.specs.Prelude.{bit_xor}
use Rattle.std.proofs.Common.{◌∙◌, arith}
use Rattle.std.proofs.lemmas.Simd.{get_or-zip2, length-zip2}
use lib.Lanes.{zip2}
use Rattle.std_defs.proofs.Joined.{xor_blocks_is}
use Rattle.xts_mode.proofs.blocks.add_mask.Goals as goal

pub returns : goal.returns
returns c =
    let block = c.args.block.now in
    let mask = c.args.mask.now in
    xor_blocks_is block mask (zip2 bit_xor block mask) (length-zip2 bit_xor block mask (omega (arith, c.told-block, c.told-mask)) ∙ c.told-block)
    (λ k below. get_or-zip2 bit_xor block mask k 0 0 0 (omega (arith, below, c.told-block)) (omega (arith, below, c.told-mask)))

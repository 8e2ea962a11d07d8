use Rattle.std.proofs.Common.{◌∙◌, ap}
use Rattle.std_defs.specs.Blocks.{block_number as number_of, block_bytes as bytes_of}
use Rattle.std_defs.specs.Cmac.{doubled, cmac_k1, cmac_k2}
use Rattle.cmac_ccm.proofs.cmac.Cmac.new.Goals as goal

pub invariant_of-result : goal.invariant_of-result
unfolding cmac_k1 cmac_k2
invariant_of-result g c =
    let k1 = c.double-k1.ensures ∙ ap doubled (c.block_number.ensures ∙ ap number_of c.seal_block.ensures) in
    (c.block_bytes.ensures ∙ ap bytes_of k1, c.block_bytes-2.ensures ∙ ap bytes_of (c.double.ensures ∙ ap doubled k1))

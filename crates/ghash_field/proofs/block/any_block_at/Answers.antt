use Rattle.std.proofs.Common.{◌∙◌, ◌*◌, arith}
use Rattle.std_defs.specs.Blocks.{block_number}
use Rattle.std_defs.proofs.PaddedBlocks.{block_number-rest, rest-length}
use Rattle.ghash_field.proofs.block.any_block_at.Goals as goal

pub returns : goal.returns
unfolding block_number
returns c =
    c.block_number.ensures
    ∙ block_number-rest c.args.text.now c.copy_from_slice.new.self c.args.index c.min-count.result 16 c.copy_from_slice.ensures.after
    (omega (arith, c.min-count.ensures, rest-length c.args.text.now (16 * c.args.index)))
    (λ h. omega (arith, c.min-count.ensures, rest-length c.args.text.now (16 * c.args.index)))

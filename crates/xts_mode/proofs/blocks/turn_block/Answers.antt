use Rattle.std.proofs.Common.{◌∙◌, ap, ap₂}
use Rattle.std_defs.specs.Blocks.{xor_blocks}
use Rattle.std_defs.specs.Xts.{times_alpha_power, xts_block}
use Rattle.xts_mode.proofs.blocks.turn_block.Goals as goal

pub returns : goal.returns
unfolding xts_block times_alpha_power
returns g c =
    c.copy_from_slice-2.ensures.after ∙ c.add_mask-2.ensures
    ∙ ap₂ xor_blocks
    (c.turn_block.ensures ∙ ap (g.D.Direction.turned c.args.direction.now) (c.add_mask.ensures ∙ ap₂ xor_blocks c.copy_from_slice.ensures.after c.block-mask.ensures))
    c.block-mask.ensures

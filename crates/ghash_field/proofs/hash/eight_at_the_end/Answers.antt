use Rattle.std.proofs.Common.{◌∙◌}
use Rattle.ghash_field.proofs.LastBlocks.{eight_is}
use Rattle.ghash_field.proofs.hash.eight_at_the_end.Goals as goal

pub returns : goal.returns
returns c =
    eight_is c.div_ceil.result c.args.first c.args.last c.copy_from_slice.new.self c.args.rest.now c.copy_from_slice-2.new.self c.copy_from_slice-3.new.self c.div_ceil.ensures c.requires
    (c.copy_from_slice.ensures.after ∙ c.block_bytes.ensures) c.copy_from_slice-2.ensures.after (c.copy_from_slice-3.ensures.after ∙ c.block_bytes-2.ensures)

use Rattle.std.proofs.Common.{◌∙◌, ◌-◌, ◌*◌, length, drop, ap, arith}
use Rattle.std.proofs.lemmas.List.{take-take}
use Rattle.std_defs.specs.Blocks.{block_number, text_block}
use Rattle.std_defs.proofs.PaddedBlocks.{rest-length}
use Rattle.ghash_field.proofs.block.block_at.Goals as goal

pub returns : goal.returns
unfolding text_block
returns c =
    let xs = drop (16 * c.args.index) c.args.text.now in
    c.block_number.ensures
    ∙ ap block_number (c.copy_from_slice.ensures.after ∙ take-take 16 (length c.args.text.now - 16 * c.args.index) xs (omega (arith, c.if-rest-lt16.false, rest-length c.args.text.now (16 * c.args.index))))

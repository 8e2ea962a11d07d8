use Rattle.std.proofs.Common.{◌∙◌, ◌-◌, ap, arith, length, take}
use Rattle.xts_mode.proofs.Stealing.{exchanged}
use Rattle.xts_mode.proofs.blocks.exchange.Goals as goal

pub returns : goal.returns
returns c =
    exchanged c.args.text.now c.copy_within.new.self c.copy_from_slice-2.new.self _ c.requires.block c.requires.less_than_two c.copy_within.ensures.after
    (c.copy_from_slice-2.ensures.after ∙ ap (take (length c.args.text.now - 16)) c.copy_from_slice.ensures.after) (omega arith)

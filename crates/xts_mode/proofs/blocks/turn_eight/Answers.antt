use Rattle.std.proofs.Common.{◌∙◌}
use Rattle.xts_mode.proofs.Eight.{eight_turned}
use Rattle.xts_mode.proofs.blocks.turn_eight.Goals as goal

pub returns-clause-text : goal.returns-clause-text
returns-clause-text g c =
    c.write_masked.ensures
    ∙ eight_turned (g.D.Direction.turned c.args.direction.now) c.args.tweak.now c.args.text.now c.take_eight-masks.result c.eight_masked-blocks.result c.turn_eight.new.b
    c.take_eight-masks.ensures.blocks c.eight_masked-blocks.ensures c.turn_eight.ensures

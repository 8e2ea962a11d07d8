use Rattle.std.proofs.Common.{◌∙◌, ◌/◌, arith, length}
use Rattle.xts_mode.proofs.Eight.{some_turned}
use Rattle.xts_mode.proofs.blocks.turn_some.Goals as goal

pub returns-clause-text : goal.returns-clause-text
returns-clause-text g c =
    c.write_some_masked.ensures
    ∙ some_turned (g.D.Direction.turned c.args.direction.now) c.args.tweak.now c.args.text.now (length c.args.text.now / 16) c.take_some-masks.result c.some_masked-blocks.result c.turn_some.new.b
    (omega arith) (omega arith) c.take_some-masks.ensures.blocks c.some_masked-blocks.ensures c.turn_some.ensures

use Rattle.std.proofs.Common.{refl, List, ℕ}
use Rattle.xts_mode.proofs.Units.{xts_block-length}
use Rattle.std_defs.specs.Xts.{xts_block}
use Rattle.xts_mode.proofs.Stealing.{stolen}
use Rattle.xts_mode.proofs.blocks.steal.Goals as goal

pub returns : goal.returns
returns g c =
    let f : List ℕ → List ℕ = g.D.Direction.turned c.args.direction.now in
    stolen (xts_block f c.args.first.now 0) (xts_block f c.args.second.now 0) c.args.text.now c.turn_block.new.text _ c.exchange.new.text c.turn_block-2.new.text
    (xts_block-length f c.args.first.now 0) c.requires.block c.requires.less_than_two c.turn_block.ensures refl c.exchange.ensures c.turn_block-2.ensures

use Rattle.aes_lanes.proofs.Shifted.{three_is}
use Rattle.aes_lanes.proofs.one_block.three_on.Goals as goal

pub returns : goal.returns
returns c = three_is c.args.round c.args.x _ c.fits-x.0 c.looked_up.ensures

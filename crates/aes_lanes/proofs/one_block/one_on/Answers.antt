use Rattle.aes_lanes.proofs.Shifted.{one_is}
use Rattle.aes_lanes.proofs.one_block.one_on.Goals as goal

pub returns : goal.returns
returns c = one_is c.args.round c.args.x _ c.fits-x.0 c.looked_up.ensures

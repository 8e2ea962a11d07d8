use Rattle.std.proofs.Common.{◌∙◌}
use Rattle.aes_lanes.proofs.Shifted.{shifted_is}
use Rattle.aes_lanes.proofs.one_block.shifted.Goals as goal

pub returns : goal.returns
returns c = c.looked_up.ensures ∙ shifted_is c.args.times c.args.x c.fits-x.0

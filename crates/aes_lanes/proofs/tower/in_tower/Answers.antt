use Rattle.aes_lanes.proofs.Terms.{entered_lanes}
use Rattle.aes_lanes.proofs.tower.in_tower.Goals as goal

pub returns : goal.returns
returns c = entered_lanes c.args.x _ c.fits-x c.by_halves.ensures

use Rattle.aes_lanes.proofs.Terms.{twice_lanes}
use Rattle.aes_lanes.proofs.tower.twice_term.Goals as goal

pub returns : goal.returns
returns c = twice_lanes c.args.x _ c.fits-x c.by_halves.ensures

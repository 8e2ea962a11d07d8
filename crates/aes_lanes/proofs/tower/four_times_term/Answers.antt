use Rattle.aes_lanes.proofs.Terms.{four_times_lanes}
use Rattle.aes_lanes.proofs.tower.four_times_term.Goals as goal

pub returns : goal.returns
returns c = four_times_lanes c.args.x _ c.fits-x c.by_halves.ensures

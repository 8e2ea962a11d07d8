use Rattle.aes_lanes.proofs.Terms.{states_added}
use Rattle.aes_lanes.proofs.tower.state_added.Goals as goal

pub returns : goal.returns
returns c = states_added c.args.x c.args.y c.fits-x.1 c.fits-y.1

use Rattle.aes_lanes.proofs.Terms.{terms_added}
use Rattle.aes_lanes.proofs.tower.terms_added.Goals as goal

pub returns : goal.returns
returns c = terms_added c.args.x c.args.y c.fits-x.1 c.fits-y.1

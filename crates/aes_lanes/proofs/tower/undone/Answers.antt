use Rattle.aes_lanes.proofs.Terms.{undone_lanes}
use Rattle.aes_lanes.proofs.tower.undone.Goals as goal

pub returns : goal.returns
returns c = undone_lanes c.args.y _ c.fits-y c.by_parts.ensures

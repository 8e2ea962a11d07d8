use Rattle.aes_lanes.proofs.Terms.{undone_last_lanes}
use Rattle.aes_lanes.proofs.tower.undone_last.Goals as goal

pub returns : goal.returns
returns c = undone_last_lanes c.args.y _ c.fits-y c.by_parts.ensures

use Rattle.aes_lanes.proofs.SealingTerms.{entered_lanes}
use Rattle.aes_lanes.proofs.sealing_tower.in_sealing_tower.Goals as goal

pub returns : goal.returns
returns c = entered_lanes c.args.x _ c.fits-x.1 c.by_halves.ensures

use Rattle.aes_lanes.proofs.SealingTerms.{last_lanes}
use Rattle.aes_lanes.proofs.sealing_tower.made_last.Goals as goal

pub returns : goal.returns
returns c = last_lanes 32 c.args.y _ c.fits-y c.by_parts-less.ensures

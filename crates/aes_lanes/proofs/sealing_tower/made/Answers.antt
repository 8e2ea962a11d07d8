use Rattle.aes_lanes.proofs.SealingTerms.{once_lanes, twice_lanes}
use Rattle.aes_lanes.proofs.sealing_tower.made.Goals as goal

pub returns-clause-once : goal.returns-clause-once
returns-clause-once c = once_lanes c.args.y _ c.fits-y.1 c.by_parts-once.ensures

pub returns-clause-twice : goal.returns-clause-twice
returns-clause-twice c = twice_lanes c.args.y _ c.fits-y.1 c.by_parts-twice.ensures

use Rattle.aes_lanes.specs.Lookup.{first_part, second_part}
use Rattle.aes_lanes.specs.declared.sealing_tower.TheConstants.{FIRST_IN_TOWER, SECOND_IN_TOWER, FIRST_TWICE, SECOND_TWICE}
use Rattle.aes_lanes.proofs.Lookups.{indices_of}
use Rattle.aes_lanes.proofs.Terms.{first_part_passes, second_part_passes}
use Rattle.aes_lanes.proofs.SealingTerms.{once_lanes, twice_lanes, from_parts}
use Rattle.aes_lanes.proofs.one_block.one_made.Goals as goal

pub by_both-once-requires-clause-first_places : goal.by_both-once-requires-clause-first_places
by_both-once-requires-clause-first_places c = indices_of 16 first_part c.args.y _ c.fits-y c.inverted.ensures.first first_part_passes

pub by_both-once-requires-clause-second_places : goal.by_both-once-requires-clause-second_places
by_both-once-requires-clause-second_places c = indices_of 16 second_part c.args.y _ c.fits-y c.inverted.ensures.second second_part_passes

pub by_both-twice-requires-clause-first_places : goal.by_both-twice-requires-clause-first_places
by_both-twice-requires-clause-first_places c = indices_of 16 first_part c.args.y _ c.fits-y c.inverted.ensures.first first_part_passes

pub by_both-twice-requires-clause-second_places : goal.by_both-twice-requires-clause-second_places
by_both-twice-requires-clause-second_places c = indices_of 16 second_part c.args.y _ c.fits-y c.inverted.ensures.second second_part_passes

pub returns-clause-once : goal.returns-clause-once
returns-clause-once c = once_lanes c.args.y _ c.fits-y.1 (from_parts FIRST_IN_TOWER SECOND_IN_TOWER c.args.y _ _ _ c.by_both-once.ensures c.inverted.ensures.first c.inverted.ensures.second)

pub returns-clause-twice : goal.returns-clause-twice
returns-clause-twice c = twice_lanes c.args.y _ c.fits-y.1 (from_parts FIRST_TWICE SECOND_TWICE c.args.y _ _ _ c.by_both-twice.ensures c.inverted.ensures.first c.inverted.ensures.second)

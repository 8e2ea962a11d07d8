use Rattle.aes_lanes.specs.Lookup.{first_part, second_part}
use Rattle.aes_lanes.specs.declared.lookup.TheConstants.{FIRST_FROM_TOWER, SECOND_FROM_TOWER}
use Rattle.aes_lanes.proofs.Lookups.{indices_of}
use Rattle.aes_lanes.proofs.Terms.{first_part_passes, second_part_passes}
use Rattle.aes_lanes.proofs.SealingTerms.{last_lanes, from_parts}
use Rattle.aes_lanes.proofs.one_block.one_made_last.Goals as goal

pub by_both-less-requires-clause-first_places : goal.by_both-less-requires-clause-first_places
by_both-less-requires-clause-first_places c = indices_of 16 first_part c.args.y _ c.fits-y c.inverted.ensures.first first_part_passes

pub by_both-less-requires-clause-second_places : goal.by_both-less-requires-clause-second_places
by_both-less-requires-clause-second_places c = indices_of 16 second_part c.args.y _ c.fits-y c.inverted.ensures.second second_part_passes

pub returns : goal.returns
returns c = last_lanes 16 c.args.y _ c.fits-y (from_parts FIRST_FROM_TOWER SECOND_FROM_TOWER c.args.y _ _ _ c.by_both-less.ensures c.inverted.ensures.first c.inverted.ensures.second)

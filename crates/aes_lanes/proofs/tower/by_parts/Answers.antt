use Rattle.aes_lanes.specs.Lookup.{look, first_part, second_part}
use Rattle.aes_lanes.proofs.Lookups.{indices_of_map, then, both_of}
use Rattle.aes_lanes.proofs.Terms.{first_part_passes, second_part_passes}
use Rattle.aes_lanes.proofs.tower.by_parts.Goals as goal

pub looked_up-left-requires-clause-places : goal.looked_up-left-requires-clause-places
looked_up-left-requires-clause-places c = indices_of_map first_part c.args.y _ c.fits-y c.inverted.ensures.first first_part_passes

pub looked_up-right-requires-clause-places : goal.looked_up-right-requires-clause-places
looked_up-right-requires-clause-places c = indices_of_map second_part c.args.y _ c.fits-y c.inverted.ensures.second second_part_passes

pub returns : goal.returns
returns c =
    both_of (λ y. look c.args.firsts (first_part y)) (λ y. look c.args.seconds (second_part y)) c.args.y c.sum.ensures
    (then (look c.args.firsts) first_part c.args.y c.looked_up-left.ensures c.inverted.ensures.first)
    (then (look c.args.seconds) second_part c.args.y c.looked_up-right.ensures c.inverted.ensures.second)

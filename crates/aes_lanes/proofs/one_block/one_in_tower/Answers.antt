use Rattle.aes_lanes.specs.Lookup.{look, low, high}
use Rattle.aes_lanes.specs.declared.lookup.TheConstants.{LOW_TO_TOWER, HIGH_TO_TOWER}
use Rattle.aes_lanes.proofs.Lookups.{indices_of, then, both_of, low_passes, high_passes}
use Rattle.aes_lanes.proofs.SealingTerms.{entered_lanes}
use Rattle.aes_lanes.proofs.one_block.one_in_tower.Goals as goal

pub looked_up-left-requires-clause-places : goal.looked_up-left-requires-clause-places
looked_up-left-requires-clause-places c = indices_of 16 low c.args.x _ c.fits-x c.low_half.ensures low_passes

pub looked_up-right-requires-clause-places : goal.looked_up-right-requires-clause-places
looked_up-right-requires-clause-places c = indices_of 16 high c.args.x _ c.fits-x c.high_half.ensures high_passes

pub returns : goal.returns
returns c =
    entered_lanes c.args.x _ c.fits-x.1 (both_of (λ x. look LOW_TO_TOWER (low x)) (λ x. look HIGH_TO_TOWER (high x)) c.args.x c.sum.ensures
    (then (look LOW_TO_TOWER) low c.args.x c.looked_up-left.ensures c.low_half.ensures)
    (then (look HIGH_TO_TOWER) high c.args.x c.looked_up-right.ensures c.high_half.ensures))

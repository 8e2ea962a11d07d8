use Rattle.aes_lanes.specs.Lookup.{look, low, high}
use Rattle.aes_lanes.proofs.Lookups.{indices_of_map, then, both_of, low_passes, high_passes}
use Rattle.aes_lanes.proofs.tower.by_halves.Goals as goal

pub looked_up-left-requires-clause-places : goal.looked_up-left-requires-clause-places
looked_up-left-requires-clause-places c = indices_of_map low c.args.x _ c.fits-x c.low_half.ensures low_passes

pub looked_up-right-requires-clause-places : goal.looked_up-right-requires-clause-places
looked_up-right-requires-clause-places c = indices_of_map high c.args.x _ c.fits-x c.high_half.ensures high_passes

pub returns : goal.returns
returns c =
    both_of (λ x. look c.args.lows (low x)) (λ x. look c.args.highs (high x)) c.args.x c.sum.ensures
    (then (look c.args.lows) low c.args.x c.looked_up-left.ensures c.low_half.ensures)
    (then (look c.args.highs) high c.args.x c.looked_up-right.ensures c.high_half.ensures)

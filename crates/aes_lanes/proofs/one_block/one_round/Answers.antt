use Rattle.aes_lanes.proofs.OneSealed.{one_round_is}
use Rattle.aes_lanes.proofs.one_block.one_round.Goals as goal

pub returns : goal.returns
returns c =
    let n = c.args.round in
    one_round_is n c.args.y c.args.key _ _ _ _ _ _ _ _ _ c.fits-y c.fits-key.0 c.one_made.ensures.once c.one_made.ensures.twice c.one_on.ensures (c.one_added-front.ensures n)
    c.three_on.ensures (c.one_added-rest.ensures n) (c.one_added.ensures n) c.one_on-2.ensures (c.one_added-2.ensures n)

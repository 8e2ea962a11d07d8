use Rattle.std.proofs.Common.{arith}
use Rattle.aes_lanes.proofs.PairSealed.{pair_mixed_is}
use Rattle.aes_lanes.proofs.sealing_pair.pair_mixed.Goals as goal

pub returns : goal.returns
returns c =
    pair_mixed_is c.args.s c.args.key _ _ _ _ _ _ _ _ _ c.fits-s c.fits-key.0 (omega arith) (omega arith) c.made.ensures.once c.made.ensures.twice
    c.one_on.ensures c.added-front.ensures c.three_on.ensures c.added-rest.ensures c.added.ensures c.one_on-2.ensures c.added-2.ensures

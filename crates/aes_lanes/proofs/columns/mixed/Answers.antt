use Rattle.aes_lanes.proofs.Mixing.{mixed_is}
use Rattle.aes_lanes.proofs.columns.mixed.Goals as goal

pub returns : goal.returns
returns c = mixed_is c.args.x _ _ _ _ _ _ c.fits-x c.one_on-next.ensures c.sum-pair.ensures c.doubled.ensures c.sum.ensures c.two_on.ensures c.sum-2.ensures

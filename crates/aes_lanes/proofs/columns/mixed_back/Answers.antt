use Rattle.aes_lanes.proofs.Mixing.{mixed_back_is}
use Rattle.aes_lanes.proofs.columns.mixed_back.Goals as goal

pub returns : goal.returns
returns c =
    mixed_back_is c.args.x _ _ _ _ _ _ c.fits-x c.two_on.ensures c.sum-crossed.ensures c.doubled.ensures c.doubled-2.ensures c.sum.ensures c.mixed.ensures

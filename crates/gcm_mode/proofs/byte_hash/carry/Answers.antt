use Rattle.gcm_mode.proofs.Tag.{absorbed}
use Rattle.gcm_mode.proofs.byte_hash.carry.Goals as goal

pub returns : goal.returns
returns g c =
    absorbed (g.H.GhashKey.block c.args.key.now) c.args.y c.absorb.result c.args.bytes.now (g.met.H.GhashKey.fits c.args.key.now) c.ranges.y.fits c.are_bytes.ensures c.absorb.ensures

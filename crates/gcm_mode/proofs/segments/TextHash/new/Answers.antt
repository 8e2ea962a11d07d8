use Rattle.std.proofs.Common.{ℕ, ap, lit<}
use Rattle.gcm_mode.proofs.Tag.{absorbed}
use Rattle.gcm_mode.proofs.segments.TextHash.new.Goals as goal

pub returns : goal.returns
returns g c =
    ap (λ (n : ℕ). (c.args.key.now, n))
    (absorbed (g.H.GhashKey.block c.args.key.now) 0 c.absorb-hash.result c.args.associated.now (g.met.H.GhashKey.fits c.args.key.now) (lit< tt) c.are_bytes.ensures c.absorb-hash.ensures)

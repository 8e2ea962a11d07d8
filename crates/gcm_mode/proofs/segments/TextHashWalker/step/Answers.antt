use Rattle.std.proofs.Common.{refl}
use Rattle.gcm_mode.proofs.Tag.{absorbed}
use Rattle.gcm_mode.proofs.segments.TextHashWalker.step.Goals as goal

pub returns : goal.returns
returns g c =
    rw (← c.self.view_is)
    (record {
      same = refl;
      kept = refl;
      hash = absorbed (g.H.GhashKey.block c.self.inside.key.now) c.self.inside.hash c.absorb-self-inside.result c.args.piece.now (g.met.H.GhashKey.fits c.self.inside.key.now) c.self.invariant c.are_bytes.ensures c.absorb-self-inside.ensures;
      bytes = c.are_bytes.ensures;
    })

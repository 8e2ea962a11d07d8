use Rattle.std.proofs.Common.{subst, sym}
use Rattle.gcm_mode.specs.Guarded.{PhaseHolds, IsLive}
use Rattle.gcm_mode.proofs.guarded.Phase.add.Goals as goal

pub returns-else-not-is_within : goal.returns-else-not-is_within
returns-else-not-is_within g c = (
  subst IsLive c.in-Associated.ensures.value tt,
  (
    tt,
    λ iv a t sealed held.
        let cipher = g.C.BlockCipher.sealed c.args.gcm.now in
        let h = subst (PhaseHolds cipher iv a t sealed) (sym c.in-Associated.ensures.value) held in
        (h.0, (h.0, (h.1.0, c.add.ensures.more iv a h.1.1))),
  ),
)

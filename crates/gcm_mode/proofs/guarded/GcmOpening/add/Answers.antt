use Rattle.gcm_mode.proofs.Guards.{told_more}
use Rattle.gcm_mode.proofs.guarded.GcmOpening.add.Goals as goal

pub returns : goal.returns
returns g c = told_more c.add.result _ _ _ (λ x h. (h.0, (h.1.0, λ iv a t made held. let more = h.1.1 iv a t t held.0 in (more.0, (more.1, held.1))))) c.add.ensures

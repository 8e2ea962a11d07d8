use Rattle.gcm_mode.proofs.guarded.GcmOpening.update.Goals as goal

pub returns : goal.returns
returns g c = let taken = c.in_ok-text.ensures.taken in
    (taken.0, (tt, λ iv a t made held. c.unseal.ensures.more iv a t made (taken.1.1 iv a t t held.0, held.1)))

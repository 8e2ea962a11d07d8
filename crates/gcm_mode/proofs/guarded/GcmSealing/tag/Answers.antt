use Rattle.gcm_mode.proofs.Guards.{sealed_so}
use Rattle.gcm_mode.proofs.guarded.GcmSealing.tag.Goals as goal

pub returns-clause-told : goal.returns-clause-told
returns-clause-told g c =
    let taken = c.in_ok-take.ensures.taken in
    (taken.0, λ iv a t made held. sealed_so (g.C.BlockCipher.sealed c.args.gcm.now) iv a t made c.tag.result held.1 (c.tag.ensures iv a t made (taken.1.1 iv a t made held.0)))

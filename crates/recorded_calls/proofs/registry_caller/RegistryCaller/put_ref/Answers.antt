use Rattle.std.proofs.Common.{◌≡◌, ◌∙◌, subst, [], ◌∷◌}
use Rattle.alg_registry.specs.Legal.{HasReference}
use Rattle.turn_lock.specs.Passes.{knows}
use Rattle.dialogues.specs.RegistryCalls.{Puts}
use Rattle.recorded_calls.specs.RegistryCalls.{IsCaller, HasReferenceOf}
use Rattle.recorded_calls.specs.Passes.{known}
use Rattle.recorded_calls.proofs.Asking.{put-asked, asks-at}
use Rattle.recorded_calls.proofs.registry_caller.RegistryCaller.put_ref.Goals as goal

pub put_ref-requires-clause-has : goal.put_ref-requires-clause-has
put_ref-requires-clause-has g c =
    let k = knows c.take_pass-pass.result in
    let caller = subst (λ o. IsCaller (known o)) c.take_pass-pass.ensures c.requires.caller in
    subst (λ made. HasReference made k.number c.args.id) caller.own (c.references_follow.ensures k.number c.args.id k.seen (subst (λ o. HasReferenceOf (known o) c.args.id) c.take_pass-pass.ensures c.requires.has))

pub returns : goal.returns
returns g c =
    asks-at c.args.self.now c.take_pass-pass.result c.put_ref.result _ (Puts c.args.id ∷ []) c.take_pass-pass.ensures c.requires.at c.put_ref.ensures.lock (put-asked c.call_laws.ensures _ _ c.args.id (subst (λ o. IsCaller (known o)) c.take_pass-pass.ensures c.requires.caller) c.put_ref.ensures.turn)

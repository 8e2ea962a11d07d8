use Rattle.std.proofs.Common.{◌≡◌, subst, ◌∙◌, Some}
use Rattle.dialogues.specs.RegistryCalls.{Gets}
use Rattle.recorded_calls.specs.RegistryCalls.{IsCaller}
use Rattle.recorded_calls.specs.Passes.{known}
use Rattle.recorded_calls.proofs.Asking.{get-asked, asks-if, asks-just}
use Rattle.recorded_calls.proofs.registry_caller.RegistryCaller.take_ref.Goals as goal

pub returns : goal.returns
returns g c =
    asks-just c.got.result c.args.self.now (Some c.take_ref-pass.result.0) (Gets c.args.id)
    (asks-if c.got.result _ c.args.self.now c.take_pass-pass.result c.take_ref-pass.result.0 _ (λ a. a) (Gets c.args.id) c.take_pass-pass.ensures c.requires.at c.take_ref-pass.ensures.lock
    (get-asked c.call_laws.ensures _ _ c.args.id c.take_ref-pass.result.1 (subst (λ o. IsCaller (known o)) c.take_pass-pass.ensures c.requires.caller) c.take_ref-pass.ensures.turn) c.got.ensures)

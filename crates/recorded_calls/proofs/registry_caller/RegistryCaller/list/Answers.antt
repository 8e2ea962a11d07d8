use Rattle.std.proofs.Common.{◌≡◌, subst, ◌∙◌, Some}
use Rattle.dialogues.specs.RegistryCalls.{Lists}
use Rattle.recorded_calls.specs.RegistryCalls.{IsCaller}
use Rattle.recorded_calls.specs.Passes.{known}
use Rattle.recorded_calls.proofs.Asking.{list-asked, asks-if, asks-just}
use Rattle.recorded_calls.proofs.registry_caller.RegistryCaller.list.Goals as goal

pub returns : goal.returns
returns g c =
    asks-just c.listed.result c.args.self.now (Some c.list-pass.result.0) Lists
    (asks-if c.listed.result _ c.args.self.now c.take_pass-pass.result c.list-pass.result.0 _ (λ a. a) Lists c.take_pass-pass.ensures c.requires.at c.list-pass.ensures.lock
    (list-asked c.call_laws.ensures _ _ c.list-pass.result.1 (subst (λ o. IsCaller (known o)) c.take_pass-pass.ensures c.requires.caller) c.list-pass.ensures.turn) c.listed.ensures)

use Rattle.std.proofs.Common.{◌≡◌, subst, ◌∙◌, Some}
use Rattle.dialogues.specs.RegistryCalls.{Enlists}
use Rattle.recorded_calls.specs.RegistryCalls.{IsCaller}
use Rattle.recorded_calls.specs.Passes.{known}
use Rattle.recorded_calls.proofs.Asking.{enlist-asked, asks-if, asks-just}
use Rattle.recorded_calls.proofs.registry_caller.RegistryCaller.enlist.Goals as goal

pub returns : goal.returns
returns g c =
    asks-just c.enlisted.result c.args.self.now (Some c.enlist-pass.result.0) (Enlists c.args.spec)
    (asks-if c.enlisted.result _ c.args.self.now c.take_pass-pass.result c.enlist-pass.result.0 _ (λ a. a) (Enlists c.args.spec) c.take_pass-pass.ensures c.requires.at c.enlist-pass.ensures.lock
    (enlist-asked c.call_laws.ensures _ _ c.args.spec c.enlist-pass.result.1 (subst (λ o. IsCaller (known o)) c.take_pass-pass.ensures c.requires.caller) c.enlist-pass.ensures.turn) c.enlisted.ensures)

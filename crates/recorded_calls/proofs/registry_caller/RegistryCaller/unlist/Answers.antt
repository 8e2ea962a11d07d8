use Rattle.std.proofs.Common.{◌≡◌, subst, ◌∙◌, is_some}
use Rattle.dialogues.specs.RegistryCalls.{Unlists}
use Rattle.recorded_calls.specs.RegistryCalls.{IsCaller}
use Rattle.recorded_calls.specs.Passes.{known}
use Rattle.recorded_calls.proofs.Asking.{unlist-asked, asks-if}
use Rattle.recorded_calls.proofs.registry_caller.RegistryCaller.unlist.Goals as goal

pub returns : goal.returns
returns g c =
    asks-if c.unlisted.result _ c.args.self.now c.take_pass-pass.result c.unlist-pass.result.0 _ (λ id. is_some id) (Unlists c.args.driver.now) c.take_pass-pass.ensures c.requires.at c.unlist-pass.ensures.lock
    (unlist-asked c.call_laws.ensures _ _ c.args.driver.now c.unlist-pass.result.1 (subst (λ o. IsCaller (known o)) c.take_pass-pass.ensures c.requires.caller) c.unlist-pass.ensures.turn) c.unlisted.ensures

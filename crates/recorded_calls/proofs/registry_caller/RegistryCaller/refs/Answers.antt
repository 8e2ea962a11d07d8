use Rattle.std.proofs.Common.{◌≡◌, subst, ◌∙◌, Some}
use Rattle.dialogues.specs.RegistryCalls.{Counts}
use Rattle.recorded_calls.specs.RegistryCalls.{IsCaller}
use Rattle.recorded_calls.specs.Passes.{known}
use Rattle.recorded_calls.proofs.Asking.{refs-asked, asks-if, asks-just}
use Rattle.recorded_calls.proofs.registry_caller.RegistryCaller.refs.Goals as goal

pub returns : goal.returns
returns g c =
    asks-just c.counted.result c.args.self.now (Some c.refs-pass.result.0) (Counts c.args.driver.now)
    (asks-if c.counted.result _ c.args.self.now c.take_pass-pass.result c.refs-pass.result.0 _ (λ a. a) (Counts c.args.driver.now) c.take_pass-pass.ensures c.requires.at c.refs-pass.ensures.lock
    (refs-asked c.call_laws.ensures _ _ c.args.driver.now c.refs-pass.result.1 (subst (λ o. IsCaller (known o)) c.take_pass-pass.ensures c.requires.caller) c.refs-pass.ensures.turn) c.counted.ensures)

use Rattle.std.proofs.Common.{◌≡◌, ◌∙◌}
use Rattle.alg_names.specs.Name.{spelling}
use Rattle.recorded_calls.proofs.Asking.{resolved}
use Rattle.recorded_calls.proofs.registry_caller.RegistryCaller.resolve.Goals as goal

pub returns : goal.returns
returns g c =
    resolved c.call_laws.ensures c.args.self.now c.take_pass-pass.result c.resolve-pass.result.0 _ (spelling c.args.name.now) c.resolve-pass.result.1 c.found.result c.take_pass-pass.ensures c.requires.at c.resolve-pass.ensures.lock
    c.requires.caller c.resolve-pass.ensures.looked c.found.ensures

use Rattle.std.proofs.Common.{◌≡◌, sym, ◌∙◌, Some, subst, []}
use Rattle.std.specs.Prelude.{slice_get, IsSome, IfOk}
use Rattle.alg_registry.specs.Rows.{registered}
use Rattle.turn_lock.specs.Passes.{knows}
use Rattle.recorded_calls.specs.RegistryCalls.{IsCaller, Asks}
use Rattle.recorded_calls.specs.Passes.{known}
use Rattle.recorded_calls.proofs.Asking.{origin-some, origin-there, origin-got, asks-at, no-call}
use Rattle.recorded_calls.proofs.registry_caller.RegistryCaller.origin.Goals as goal

pub origin_of-requires : goal.origin_of-requires
origin_of-requires g c =
    let k = knows c.take_pass-pass.result in
    let there = subst (λ o. IsSome (slice_get (registered (known o).seen) c.args.id)) c.take_pass-pass.ensures c.requires.seen in
    origin-there c.origin-pass.result.1 (slice_get (registered k.seen) c.args.id) (origin-some k (knows c.origin-pass.result.0) c.args.id c.origin-pass.result.1 c.registry_calls_go_on.ensures.registered there c.origin-pass.ensures.turn) there

pub returns : goal.returns
returns g c =
    let k = knows c.take_pass-pass.result in
    let l = knows c.origin-pass.result.0 in
    let there = subst (λ o. IsSome (slice_get (registered (known o).seen) c.args.id)) c.take_pass-pass.ensures c.requires.seen in
    let turn = c.origin-pass.ensures.turn in
    let is = origin-some k l c.args.id c.origin-pass.result.1 c.registry_calls_go_on.ensures.registered there turn in
    let asks = asks-at c.args.self.now c.take_pass-pass.result c.origin-pass.result.0 _ [] c.take_pass-pass.ensures c.requires.at c.origin-pass.ensures.lock (no-call c.call_laws.ensures k l turn.0 (subst (λ o. IsCaller (known o)) c.take_pass-pass.ensures c.requires.caller) turn.1 turn.2.2) in
    origin-got c.origin_of.result c.origin-pass.result.1 (slice_get (registered (known c.args.self.now).seen) c.args.id) (Asks c.args.self.now (Some c.origin-pass.result.0) [])
    (subst (λ o. IfOk c.origin-pass.result.1 (λ x. x ≡ slice_get (registered (known o).seen) c.args.id)) (sym c.take_pass-pass.ensures) is) asks c.origin_of.ensures

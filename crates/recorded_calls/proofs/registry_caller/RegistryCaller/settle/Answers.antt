use Rattle.std.proofs.Common.{◌≡◌, ◌∙◌, sym, ap, subst, Some, Ok}
use Rattle.turn_lock.specs.Passes.{knows}
use Rattle.shared_registry.specs.Builds.{Works, Settled, WasAnswered}
use Rattle.recorded_calls.specs.Looks.{Sought}
use Rattle.recorded_calls.specs.Passes.{known}
use Rattle.recorded_calls.proofs.Looking.{resolved-ok, resolved-err, settles-entry, settles-fault}
use Rattle.recorded_calls.proofs.registry_caller.RegistryCaller.settle.Goals as goal

pub settle-pass-requires-clause-answered : goal.settle-pass-requires-clause-answered
settle-pass-requires-clause-answered g c =
    subst (λ (x : Sought). WasAnswered (knows c.take_pass-pass.result) x.text x.looked) (sym c.look.view_is)
    (subst (λ o. WasAnswered (known o) c.args.look.now.text c.args.look.now.looked) c.take_pass-pass.ensures c.requires.answered)

pub returns-in_ok-entry-in-Ok : goal.returns-in_ok-entry-in-Ok
returns-in_ok-entry-in-Ok g c =
    let l = knows c.settle-pass.result.0 in
    let r = c.settle-pass.result.1 in
    settles-entry c.registry_calls_go_on.ensures.found c.args.look.now.looked r c.in-Ok.id c.in_ok-entry-in-Ok.field-0 (resolved-ok r c.in-Ok.id (Ok c.in_ok-id.field-0) (ap (λ x. Ok x) c.in-Ok.is) c.in_ok-id.ensures)
    (subst (λ o. Works (known o) l) (sym c.take_pass-pass.ensures) c.settle-pass.ensures.works) (ap (λ t. Some t) c.settle-pass.ensures.lock ∙ sym c.requires.at)
    (subst (λ (x : Sought). Settled l x.looked r) c.look.view_is c.settle-pass.ensures.settled) c.in_ok-entry-in-Ok.ensures.0 c.in_ok-entry-in-Ok.ensures.1

pub returns-in-Err : goal.returns-in-Err
returns-in-Err g c =
    let l = knows c.settle-pass.result.0 in
    let r = c.settle-pass.result.1 in
    settles-fault c.args.look.now.looked r c.in-Err.errno (resolved-err r c.in-Err.errno (Ok c.in_ok-id.field-0) (ap (λ x. Ok x) c.in-Err.is) c.in_ok-id.ensures)
    (subst (λ o. Works (known o) l) (sym c.take_pass-pass.ensures) c.settle-pass.ensures.works) (ap (λ t. Some t) c.settle-pass.ensures.lock ∙ sym c.requires.at)
    (subst (λ (x : Sought). Settled l x.looked r) c.look.view_is c.settle-pass.ensures.settled)

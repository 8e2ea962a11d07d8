use Rattle.std.proofs.Common.{ap, sym, ◌∙◌, refl, subst}
use Rattle.dialogues.specs.ScriptState.{Live}
use Rattle.script_session.specs.TransformChanges.{has_undelivered}
use Rattle.script_session.specs.States.{State}
use Rattle.recorded_calls.specs.RegistryCalls.{HasReferenceOf}
use Rattle.recorded_calls.specs.Passes.{known}
use Rattle.script_session.proofs.Frees.{free-arm}
use Rattle.script_session.proofs.Standing.{may-give}
use Rattle.script_session.proofs.Arms.{answer-holds}
use Rattle.script_session.proofs.Breaking.{or-breaks, stops-none}
use Rattle.script_session.proofs.Freeing.{free-nobody, free-owing}
use Rattle.dialogues.specs.Dialogues.{missing}
use Rattle.dialogues.specs.ScriptState.{shared_of}
use Rattle.script_session.proofs.Living.{live-at, no-live, is-live, is-there, pipe-there, taken}
use Rattle.script_session.proofs.Moving.{fails}
use Rattle.script_session.proofs.scripts.Session.free.Goals as goal

pub returns-in_default : goal.returns-in_default
returns-in_default g c =
    let s = c.args.self.now in
    let none = no-live c.args.self.now c.self.inside.lives c.self.invariant c.self.view_is c.args.label.now c.as_slice.result.now c.as_slice.ensures c.in_default.ensures in
    or-breaks _ _ c.answer_errno.result c.answer_errno.ensures
    (λ all. answer-holds _ s s _ _ all (free-nobody s.script_state c.args.number c.args.label.now _ none (c.missing-errno.ensures ∙ ap (λ l. missing (shared_of s.script_state l)) c.as_slice-in_default.ensures)) refl refl refl refl c.requires.state.stands c.requires.state.posted)
    c.requires.state.posted

pub get-requires : goal.get-requires
get-requires g c = is-there c.args.self.now c.self.inside.lives c.self.invariant c.self.view_is c.args.label.now c.as_slice.result.now c.as_slice.ensures c.in-Some.place c.in-Some.ensures

pub returns-then-is_undelivered : goal.returns-then-is_undelivered
returns-then-is_undelivered g c =
    let s = c.args.self.now in
    let at = live-at c.args.self.now c.self.inside.lives c.self.invariant c.self.view_is c.args.label.now c.as_slice.result.now c.as_slice.ensures c.in-Some.place c.in-Some.ensures in
    let was = is-live c.args.self.now c.self.inside.lives c.self.invariant c.self.view_is c.args.label.now c.as_slice.result.now c.as_slice.ensures c.in-Some.place c.in-Some.ensures c.get.result.now c.get.ensures in
    or-breaks _ _ c.answer_errno-then-is_undelivered.result c.answer_errno-then-is_undelivered.ensures
    (λ all. answer-holds _ s s _ _ all (free-owing s.script_state c.args.number c.args.label.now at.live at.found (ap (λ (l : Live). has_undelivered l.pipe) (sym was) ∙ (sym c.is_undelivered.ensures ∙ c.if-is_undelivered.true))) refl refl refl refl c.requires.state.stands c.requires.state.posted)
    c.requires.state.posted

pub remove-live-requires-clause-there : goal.remove-live-requires-clause-there
remove-live-requires-clause-there g c = is-there c.args.self.now c.self.inside.lives c.self.invariant c.self.view_is c.args.label.now c.as_slice.result.now c.as_slice.ensures c.in-Some.place c.in-Some.ensures

pub close_live-requires-clause-pipe : goal.close_live-requires-clause-pipe
close_live-requires-clause-pipe g c =
    pipe-there c.args.self.now c.self.inside.lives c.self.invariant c.self.view_is c.args.label.now c.as_slice.result.now c.as_slice.ensures c.in-Some.place c.in-Some.ensures c.remove-live.result c.remove-live.ensures.value c.requires.state.posted

pub put_ref-requires-clause-has : goal.put_ref-requires-clause-has
put_ref-requires-clause-has g c =
    let s = c.args.self.now in
    let at = live-at c.args.self.now c.self.inside.lives c.self.invariant c.self.view_is c.args.label.now c.as_slice.result.now c.as_slice.ensures c.in-Some.place c.in-Some.ensures in
    let was = is-live c.args.self.now c.self.inside.lives c.self.invariant c.self.view_is c.args.label.now c.as_slice.result.now c.as_slice.ensures c.in-Some.place c.in-Some.ensures c.remove-live.result c.remove-live.ensures.value in
    subst (HasReferenceOf (known c.self.inside.registry)) (sym (c.id.ensures ∙ ap (λ (l : Live). l.id) was))
    (subst (λ (x : State). HasReferenceOf (known x.registry) at.live.id) (sym c.self.view_is) (may-give c.args.label.now s.script_state.lives _ at (known s.registry) c.requires.state.stands))

pub returns : goal.returns
returns g c =
    let s = c.args.self.now in
    let at = live-at c.args.self.now c.self.inside.lives c.self.invariant c.self.view_is c.args.label.now c.as_slice.result.now c.as_slice.ensures c.in-Some.place c.in-Some.ensures in
    let first = is-live c.args.self.now c.self.inside.lives c.self.invariant c.self.view_is c.args.label.now c.as_slice.result.now c.as_slice.ensures c.in-Some.place c.in-Some.ensures c.get.result.now c.get.ensures in
    let was = is-live c.args.self.now c.self.inside.lives c.self.invariant c.self.view_is c.args.label.now c.as_slice.result.now c.as_slice.ensures c.in-Some.place c.in-Some.ensures c.remove-live.result c.remove-live.ensures.value in
    free-arm s c.self.view_is c.args.label.now _ at c.remove-live.result c.id.result c.args.number c.args.answers.now.items c.say.new.answers.items was c.id.ensures (taken c.args.self.now c.self.inside.lives c.self.invariant c.self.view_is c.args.label.now c.as_slice.result.now c.as_slice.ensures c.in-Some.place c.in-Some.ensures _ c.remove-live.ensures.entries)
    c.close_live.ensures.lock c.close_live.ensures.released c.put_ref.ensures
    (ap (λ (l : Live). has_undelivered l.pipe) (sym first) ∙ (sym c.is_undelivered.ensures ∙ c.if-is_undelivered.false)) c.requires.state.stands c.requires.state.posted c.in_ok-say.ensures

pub returns-in_err-say : goal.returns-in_err-say
returns-in_err-say g c = fails c.from_residual.result _ c.from_residual.ensures.0 (stops-none _ c.args.self.now c.requires.state.stands)

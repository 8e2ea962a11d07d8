use Rattle.std.proofs.Common.{◌∙◌, [], ap, sym, refl, subst}
use Rattle.std.specs.Prelude.{MatchResult}
use Rattle.script_session.specs.TransformChanges.{PerformsFor, StopsFor}
use Rattle.script_session.specs.Settings.{sets}
use Rattle.script_session.specs.States.{State, PadsHaveAListPerWorker}
use Rattle.recorded_calls.specs.Passes.{known}
use Rattle.script_session.proofs.Arms.{or-stops, answer-holds}
use Rattle.script_session.proofs.Breaking.{stops-none}
use Rattle.std.specs.BTreeMap.{get}
use Rattle.std.specs.Ordering.{nat_cmp}
use Rattle.board.proofs.Kept.{loan_here}
use Rattle.script_session.proofs.Filed.{filed-set}
use Rattle.script_session.proofs.Piped.{set-free}
use Rattle.dialogues.specs.Dialogues.{missing}
use Rattle.dialogues.specs.ScriptState.{shared_of}
use Rattle.script_session.proofs.Living.{no-live, loan-there, pipe-there, live-arm, written}
use Rattle.script_session.proofs.scripts.Session.set.Goals as goal

pub returns-in_default : goal.returns-in_default
returns-in_default g c =
    let s = c.args.self.now in
    let none = no-live s c.self.inside.lives c.self.invariant c.self.view_is c.args.label.now c.as_slice.result.now c.as_slice.ensures c.in_default.ensures in
    or-stops c.answer_errno.result c.answer_errno.ensures
    (answer-holds _ s s _ _ _ (set-free s.workers s.script_state c.args.number c.args.label.now c.args.setting _ none (c.missing-errno.ensures ∙ ap (λ l. missing (shared_of s.script_state l)) c.as_slice-in_default.ensures)) refl refl refl refl c.requires.state.stands c.requires.state.posted)
    (stops-none _ s c.requires.state.stands)

pub unwrap-live-requires : goal.unwrap-live-requires
unwrap-live-requires g c = loan-there c.args.self.now c.self.inside.lives c.self.invariant c.self.view_is c.args.label.now c.as_slice.result.now c.as_slice.ensures c.in-Some.place c.in-Some.ensures c.get_mut.result c.get_mut.ensures.value

pub invariant_of-self : goal.invariant_of-self
invariant_of-self g c =
    let is = loan_here (get nat_cmp c.self.inside.lives.transforms c.in-Some.place) c.get_mut.result c.unwrap-live.result c.get_mut.ensures.value c.unwrap-live.ensures in
    let set = c.get_mut.follows.holds c.set_live.new.live in
    filed-set c.self.inside.lives _ c.in-Some.place c.unwrap-live.result.now c.set_live.new.live c.self.invariant is c.set_live.ensures.named refl refl set.0 set.1

pub set_live-requires-clause-pipe : goal.set_live-requires-clause-pipe
set_live-requires-clause-pipe g c =
    let is = loan_here (get nat_cmp c.self.inside.lives.transforms c.in-Some.place) c.get_mut.result c.unwrap-live.result c.get_mut.ensures.value c.unwrap-live.ensures in
    pipe-there c.args.self.now c.self.inside.lives c.self.invariant c.self.view_is c.args.label.now c.as_slice.result.now c.as_slice.ensures c.in-Some.place c.in-Some.ensures c.unwrap-live.result.now is c.requires.state.posted

pub set_live-requires-clause-wide : goal.set_live-requires-clause-wide
set_live-requires-clause-wide g c = subst PadsHaveAListPerWorker (sym c.self.view_is) c.requires.wide

pub returns : goal.returns
returns g c =
    let s = c.args.self.now in
    let is = loan_here (get nat_cmp c.self.inside.lives.transforms c.in-Some.place) c.get_mut.result c.unwrap-live.result c.get_mut.ensures.value c.unwrap-live.ensures in
    let set = written s c.self.inside.lives c.self.invariant c.self.view_is c.args.label.now c.as_slice.result.now c.as_slice.ensures c.in-Some.place c.in-Some.ensures c.unwrap-live.result.now c.set_live.new.live _ is c.set_live.ensures.named (c.get_mut.follows.holds c.set_live.new.live).0 in
    live-arm s c.self.inside.lives c.self.invariant c.self.view_is c.args.label.now c.as_slice.result.now c.as_slice.ensures c.in-Some.place c.in-Some.ensures c.unwrap-live.result.now c.set_live.new.live _
    (λ label script_state. sets c.args.self.now.workers script_state c.args.number label c.args.setting) c.set_live.new.caller _ _ c.set_live.result is set c.set_live.ensures.lock c.requires.state.stands c.requires.state.posted
    (subst (λ w. MatchResult c.set_live.result (λ _. PerformsFor (λ script_state. sets w script_state c.args.number c.unwrap-live.result.now.label c.args.setting) c.unwrap-live.result.now c.set_live.new.live (known c.self.inside.board) (known c.set_live.new.caller) [] c.args.answers.now.items c.set_live.new.answers.items) (λ _. StopsFor (λ script_state. sets w script_state c.args.number c.unwrap-live.result.now.label c.args.setting) c.unwrap-live.result.now (known c.self.inside.board) (known c.set_live.new.caller))) (ap (λ (x : State). x.workers) c.self.view_is) c.set_live.ensures.held)

use Rattle.std.proofs.Common.{ap, sym, refl, ◌∙◌, Some}
use Rattle.dialogues.specs.ScriptState.{shared_of}
use Rattle.script_session.specs.States.{State}
use Rattle.script_session.proofs.Living.{is-live, is-there, either-at, no-either}
use Rattle.script_session.proofs.scripts.Session.either_of.Goals as goal

pub get-requires : goal.get-requires
get-requires c = is-there c.args.self.now c.self.inside.lives c.self.invariant c.self.view_is c.args.label.now c.args.label.now refl c.in-Some.place c.in-Some.ensures

pub returns-in-Some : goal.returns-in-Some
returns-in-Some c =
    let s = c.args.self.now in
    ap (λ l. Some l) (is-live s c.self.inside.lives c.self.invariant c.self.view_is c.args.label.now c.args.label.now refl c.in-Some.place c.in-Some.ensures c.get.result.now c.get.ensures)
    ∙ sym (either-at s c.self.inside.lives c.self.invariant c.self.view_is c.args.label.now c.args.label.now refl c.in-Some.place c.in-Some.ensures)

pub returns-in-None : goal.returns-in-None
returns-in-None c =
    let s = c.args.self.now in
    c.find_shared.ensures ∙ (ap (λ (x : State). shared_of x.script_state c.args.label.now) c.self.view_is
    ∙ sym (no-either s c.self.inside.lives c.self.invariant c.self.view_is c.args.label.now c.args.label.now refl c.in-None.ensures))

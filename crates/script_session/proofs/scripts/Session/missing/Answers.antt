use Rattle.std.proofs.Common.{ap, ◌∙◌}
use Rattle.dialogues.specs.Dialogues.{missing}
use Rattle.dialogues.specs.ScriptState.{shared_of}
use Rattle.script_session.specs.States.{State}
use Rattle.script_session.proofs.scripts.Session.missing.Goals as goal

pub returns-in-Some : goal.returns-in-Some
returns-in-Some c = ap missing (c.in-Some.ensures ∙ ap (λ (x : State). shared_of x.script_state c.args.label.now) c.self.view_is)

pub returns-in-None : goal.returns-in-None
returns-in-None c = ap missing (c.in-None.ensures ∙ ap (λ (x : State). shared_of x.script_state c.args.label.now) c.self.view_is)

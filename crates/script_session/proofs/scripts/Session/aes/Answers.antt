use Rattle.std.proofs.Common.{ap, sym, ◌∙◌, refl}
use Rattle.dialogues.specs.Dialogues.{says}
use Rattle.dialogues.specs.RequestCommands.{aes_said}
use Rattle.script_session.proofs.Arms.{or-stops, answer-holds}
use Rattle.script_session.proofs.Breaking.{stops-none}
use Rattle.script_session.proofs.Moving.{fails}
use Rattle.script_session.proofs.scripts.Session.aes.Goals as goal

pub returns-in_err-answer : goal.returns-in_err-answer
returns-in_err-answer c = fails c.from_residual.result _ c.from_residual.ensures.0 (stops-none _ c.args.self.now c.requires.state.stands)

pub returns : goal.returns
returns c =
    let s = c.args.self.now in
    let n = c.args.number in
    or-stops c.say.result c.say.ensures
    (answer-holds _ s s _ _ _
    (sym (ap (says s.script_state) (c.in_ok-answer.ensures ∙ (ap (λ k. aes_said n k c.as_slice-2.result.now) c.as_slice.ensures ∙ ap (λ b. aes_said n c.args.key.now b) c.as_slice-2.ensures))))
    refl refl refl refl c.requires.state.stands c.requires.state.posted)
    (stops-none _ s c.requires.state.stands)

use Rattle.std.proofs.Common.{ap, sym, ◌∙◌, refl}
use Rattle.kc_base.specs.declared.error_numbers.Errno.TheVariants.{ENOENT}
use Rattle.dialogues.specs.Bulk.{bulk_said}
use Rattle.dialogues.specs.Dialogues.{for_live, says}
use Rattle.dialogues.specs.ScriptState.{Live, either_of}
use Rattle.script_session.proofs.Arms.{or-stops, answer-holds}
use Rattle.script_session.proofs.Breaking.{stops-none}
use Rattle.script_session.proofs.Moving.{fails}
use Rattle.script_session.proofs.scripts.Session.bulk.Goals as goal

pub returns-in_default : goal.returns-in_default
returns-in_default g c =
    let s = c.args.self.now in
    let none = ap (λ l. either_of s.script_state l) (sym c.as_slice.ensures) ∙ sym c.in_default.ensures in
    or-stops c.answer_errno.result c.answer_errno.ensures
    (answer-holds _ s s _ _ _ (ap (λ o. for_live s.script_state c.args.number o ENOENT (λ (live : Live). says s.script_state (bulk_said c.args.number live c.args.size c.args.seed))) none) refl refl refl refl c.requires.state.stands c.requires.state.posted)
    (stops-none _ s c.requires.state.stands)

pub returns : goal.returns
returns g c =
    let s = c.args.self.now in
    let found = ap (λ l. either_of s.script_state l) (sym c.as_slice.ensures) ∙ sym c.in-Some.ensures in
    or-stops c.say.result c.say.ensures
    (answer-holds _ s s _ _ _
    (ap (λ o. for_live s.script_state c.args.number o ENOENT (λ (live : Live). says s.script_state (bulk_said c.args.number live c.args.size c.args.seed))) found ∙ ap (says s.script_state) (sym c.in_ok-answer.ensures))
    refl refl refl refl c.requires.state.stands c.requires.state.posted)
    (stops-none _ s c.requires.state.stands)

pub returns-in_err-answer : goal.returns-in_err-answer
returns-in_err-answer g c = fails c.from_residual.result _ c.from_residual.ensures.0 (stops-none _ c.args.self.now c.requires.state.stands)

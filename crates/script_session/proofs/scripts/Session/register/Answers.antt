use Rattle.std.proofs.Common.{refl, ap, sym, ◌∙◌, ◌++◌, ◌∷◌, []}
use Rattle.dialogues.specs.Questions.{Enlist}
use Rattle.dialogues.specs.RegistryCommands.{enlist_said}
use Rattle.script_session.proofs.KnownDrivers.{known-driver}
use Rattle.script_session.proofs.Arms.{or-stops, answer-holds, asking-arm, register-unknown, register-high, register-asks}
use Rattle.script_session.proofs.Breaking.{or-breaks, stops-none, unasked-arm}
use Rattle.script_session.proofs.Moving.{fails}
use Rattle.script_session.proofs.scripts.Session.register.Goals as goal

pub returns-in_default : goal.returns-in_default
returns-in_default g c =
    or-stops c.answer_errno.result c.answer_errno.ensures
    (answer-holds _ c.args.self.now c.args.self.now _ _ _
    (register-unknown c.args.self.now.script_state c.args.number c.args.priority c.as_slice.result.now c.args.driver.now c.in_ok-spec.field-0 c.as_slice.ensures c.in_ok-spec.ensures c.in_default.is) refl refl refl refl c.requires.state.stands c.requires.state.posted)
    (stops-none _ c.args.self.now c.requires.state.stands)

pub returns-then-priority-gt-MOST_PRIORITY : goal.returns-then-priority-gt-MOST_PRIORITY
returns-then-priority-gt-MOST_PRIORITY g c =
    or-stops c.answer_errno-then-priority-gt-MOST_PRIORITY.result c.answer_errno-then-priority-gt-MOST_PRIORITY.ensures
    (answer-holds _ c.args.self.now c.args.self.now _ _ _
    (register-high c.args.self.now.script_state c.args.number c.args.priority c.as_slice.result.now c.args.driver.now c.in_ok-spec.field-0 c.in-Some.spec c.as_slice.ensures c.in_ok-spec.ensures c.in-Some.is c.if-priority-gt-MOST_PRIORITY.true)
    refl refl refl refl c.requires.state.stands c.requires.state.posted)
    (stops-none _ c.args.self.now c.requires.state.stands)

pub enlist-requires-clause-driver : goal.enlist-requires-clause-driver
enlist-requires-clause-driver g c = known-driver c.as_slice.result.now c.args.priority c.in-Some.spec (sym c.in_ok-spec.ensures ∙ c.in-Some.is)

pub returns : goal.returns
returns g c =
    or-breaks _ _ c.say.result c.say.ensures
    (λ all said. asking-arm c.args.self.now c.self.view_is _ (Enlist c.in-Some.spec) c.in_ok-how.how (enlist_said c.args.number) _ all
    (register-asks c.args.self.now.script_state c.args.number c.args.priority c.as_slice.result.now c.args.driver.now c.in_ok-spec.field-0 c.in-Some.spec c.as_slice.ensures c.in_ok-spec.ensures c.in-Some.is c.if-priority-gt-MOST_PRIORITY.false)
    c.requires.state.stands c.requires.state.posted c.in_ok-how.ensures (λ id. refl) (said ∙ ap (λ a. c.args.answers.now.items ++ a ∷ []) c.enlisted_answer.ensures))
    c.requires.state.posted

pub returns-in_err-spec : goal.returns-in_err-spec
returns-in_err-spec g c = fails c.from_residual.result _ c.from_residual.ensures.0 (stops-none _ c.args.self.now c.requires.state.stands)

pub returns-in_err-how : goal.returns-in_err-how
returns-in_err-how g c = fails c.from_residual-in_err-how.result _ c.from_residual-in_err-how.ensures.0 (unasked-arm c.args.self.now c.self.view_is _ c.in_err-how.ensures)

use Rattle.std.proofs.Common.{refl, ap, ◌∙◌, ◌++◌, ◌∷◌, []}
use Rattle.dialogues.specs.Questions.{Count}
use Rattle.dialogues.specs.RegistryCommands.{refs_said}
use Rattle.dialogues.specs.RegistryCalls.{Counts}
use Rattle.script_session.proofs.Arms.{asks-named, asking-arm}
use Rattle.script_session.proofs.Breaking.{or-breaks, unasked-arm}
use Rattle.script_session.proofs.Moving.{fails}
use Rattle.script_session.proofs.scripts.Session.refs.Goals as goal

pub returns : goal.returns
returns g c =
    or-breaks _ _ c.say.result c.say.ensures
    (λ all said. asking-arm c.args.self.now c.self.view_is _ (Count c.args.driver.now) c.in_ok-references.references (refs_said c.args.number) _ all refl c.requires.state.stands c.requires.state.posted
    (asks-named (λ d. Counts d c.in_ok-references.references) c.as_slice.result.now c.args.driver.now c.as_slice.ensures c.in_ok-references.ensures) (λ id. refl)
    (said ∙ ap (λ a. c.args.answers.now.items ++ a ∷ []) c.refs_answer.ensures))
    c.requires.state.posted

pub returns-in_err-references : goal.returns-in_err-references
returns-in_err-references g c = fails c.from_residual.result _ c.from_residual.ensures.0 (unasked-arm c.args.self.now c.self.view_is _ c.in_err-references.ensures)

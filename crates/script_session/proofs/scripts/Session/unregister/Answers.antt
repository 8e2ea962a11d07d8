use Rattle.std.proofs.Common.{refl, ap, ◌∙◌, ◌++◌, ◌∷◌, []}
use Rattle.dialogues.specs.Questions.{Unlist}
use Rattle.dialogues.specs.RegistryCommands.{unlist_said}
use Rattle.dialogues.specs.RegistryCalls.{Unlists}
use Rattle.script_session.proofs.Arms.{asks-named, asking-arm}
use Rattle.script_session.proofs.Breaking.{or-breaks, unasked-arm}
use Rattle.script_session.proofs.Moving.{fails}
use Rattle.script_session.proofs.scripts.Session.unregister.Goals as goal

pub returns : goal.returns
returns g c =
    let did = c.in_ok-was_there.ensures in
    or-breaks _ _ c.say.result c.say.ensures
    (λ all said. asking-arm c.args.self.now c.self.view_is _ (Unlist c.args.driver.now) did.0 (unlist_said c.args.number) _ all refl c.requires.state.stands c.requires.state.posted
    (asks-named (λ d. Unlists d did.0) c.as_slice.result.now c.args.driver.now c.as_slice.ensures did.2) (λ id. refl)
    (said ∙ ap (λ a. c.args.answers.now.items ++ a ∷ []) (c.unlisted_answer.ensures did.0 did.1)))
    c.requires.state.posted

pub returns-in_err-was_there : goal.returns-in_err-was_there
returns-in_err-was_there g c = fails c.from_residual.result _ c.from_residual.ensures.0 (unasked-arm c.args.self.now c.self.view_is _ c.in_err-was_there.ensures)

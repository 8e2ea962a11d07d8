use Rattle.std.proofs.Common.{refl, ap, ◌∙◌, ◌++◌, ◌∷◌, [], map, length}
use Rattle.dialogues.specs.RegistryCommands.{row_said}
use Rattle.reply_text.specs.declared.answers.Answer.TheVariants as said
use Rattle.script_session.proofs.Arms.{listing-arm}
use Rattle.script_session.proofs.Breaking.{or-breaks, unasked-arm}
use Rattle.script_session.proofs.Moving.{fails}
use Rattle.script_session.proofs.scripts.Session.list.Goals as goal

pub returns : goal.returns
returns g c =
    or-breaks _ _ c.list_rows.result c.list_rows.ensures
    (λ all told. listing-arm c.args.self.now c.self.view_is _ c.in_ok-listing.listing (λ rows. map (row_said c.args.number) rows ++ said.Listed c.args.number (length rows) ∷ []) _ all refl c.requires.state.stands c.requires.state.posted c.in_ok-listing.ensures
    (told ∙ ap (λ rows. c.args.answers.now.items ++ (map (row_said c.args.number) rows ++ said.Listed c.args.number (length rows) ∷ [])) c.rows.ensures))
    c.requires.state.posted

pub returns-in_err-listing : goal.returns-in_err-listing
returns-in_err-listing g c = fails c.from_residual.result _ c.from_residual.ensures.0 (unasked-arm c.args.self.now c.self.view_is _ c.in_err-listing.ensures)

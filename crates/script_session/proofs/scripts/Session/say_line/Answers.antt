use Rattle.std.proofs.Common.{◌∙◌, ◌++◌, ap, subst}
use Rattle.std.specs.List.{flat_map}
use Rattle.dialogues.specs.Lines.{line_dialogue}
use Rattle.dialogues.specs.Widths.{width_of}
use Rattle.reply_text.specs.Answers.{text_of}
use Rattle.script_session.specs.PerformedDialogue.{PerformsBy}
use Rattle.script_session.proofs.Breaking.{stops-held}
use Rattle.script_session.proofs.Moving.{fails}
use Rattle.script_session.proofs.scripts.Session.say_line.Goals as goal

pub returns-in_err-answer_line-clause-done : goal.returns-in_err-answer_line-clause-done
returns-in_err-answer_line-clause-done g c = fails c.from_residual.result _ c.from_residual.ensures.0 c.in_err-answer_line.ensures.done

pub returns-in_err-put_all-clause-done : goal.returns-in_err-put_all-clause-done
returns-in_err-put_all-clause-done g c =
    let s = c.args.self.now in
    fails c.from_residual-in_err-put_all.result _ c.from_residual-in_err-put_all.ensures.0
    (stops-held (line_dialogue s.workers s.script_state c.args.number c.args.line) s c.answer_line.new.self c.new-answers.result.items c.answer_line.new.answers.items c.in_ok-answer_line.ensures.done c.requires.ready.posted)

pub returns-clause-done : goal.returns-clause-done
returns-clause-done g c =
    let s = c.args.self.now in
    record {
      said = c.answer_line.new.answers.items;
      held = subst (λ a. PerformsBy (width_of c.args.line) (line_dialogue s.workers s.script_state c.args.number c.args.line) s c.answer_line.new.self a c.answer_line.new.answers.items) c.new-answers.ensures.items c.in_ok-answer_line.ensures.done;
      says = c.in_ok-put_all.ensures.ok ∙ ap (λ a. c.args.reply.now.text ++ flat_map text_of a) c.deref.ensures.value;
    }

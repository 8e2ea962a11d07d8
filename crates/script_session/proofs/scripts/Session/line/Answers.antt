use Rattle.std.proofs.Common.{◌∙◌, ap, sym, rules}
use Rattle.dialogues.specs.PipelineCommands.{poll, drain}
use Rattle.script_text.specs.declared.commands.Command.TheVariants as command
use Rattle.script_text.specs.declared.commands.Line.TheVariants as line
use Rattle.script_session.proofs.Commands.{done-on, line-replies, line-ready, line-unwritten, line-uncalled, answers-reply}
use Rattle.script_session.proofs.scripts.Session.line.Goals.{in_default-via-in-Cmd+in-Aes-1, in_default-via-in-Nothing-1}
use Rattle.script_session.proofs.scripts.Session.line.Goals as goal

pub returns-in-Cmd-Poll-clause-done : goal.returns-in-Cmd-Poll-clause-done
returns-in-Cmd-Poll-clause-done g c =
    let s = c.args.self.now in
    done-on c.collect.result s c.collect.new.self c.args.number c.args.line (line.Cmd (command.Poll c.in-Cmd-Poll.label)) _ _ (c.in-Cmd-Poll.is ∙ ap (λ x. line.Cmd x) c.in-Cmd-Poll.field-0-is)
    (line-replies 1 c.collect.result (poll s.script_state c.args.number c.in-Cmd-Poll.label) s c.collect.new.self _ _ c.collect.ensures)

pub returns-in-Cmd-Poll-clause-ready : goal.returns-in-Cmd-Poll-clause-ready
returns-in-Cmd-Poll-clause-ready g c = line-ready c.shared_is_known.ensures.stays 1 c.collect.result _ c.args.registry.now c.args.board.now _ c.args.self.now c.collect.new.self _ _ c.requires.ready c.collect.ensures

pub returns-in-Cmd-Poll-clause-unwritten : goal.returns-in-Cmd-Poll-clause-unwritten
returns-in-Cmd-Poll-clause-unwritten g c = line-unwritten c.collect.result _ _ c.args.self.now c.collect.new.self _ _ c.collect.ensures

pub returns-in-Cmd-Poll-clause-uncalled : goal.returns-in-Cmd-Poll-clause-uncalled
returns-in-Cmd-Poll-clause-uncalled g c = line-uncalled c.collect.result _ _ _ c.args.self.now c.collect.new.self _ _ c.collect.ensures

pub returns-in-Cmd-Drain-clause-done : goal.returns-in-Cmd-Drain-clause-done
returns-in-Cmd-Drain-clause-done g c =
    let s = c.args.self.now in
    done-on c.collect-in-Cmd-Drain.result s c.collect-in-Cmd-Drain.new.self c.args.number c.args.line (line.Cmd (command.Drain c.in-Cmd-Drain.label)) _ _ (c.in-Cmd-Drain.is ∙ ap (λ x. line.Cmd x) c.in-Cmd-Drain.field-0-is)
    (line-replies 1 c.collect-in-Cmd-Drain.result (drain s.script_state c.args.number c.in-Cmd-Drain.label) s c.collect-in-Cmd-Drain.new.self _ _ c.collect-in-Cmd-Drain.ensures)

pub returns-in-Cmd-Drain-clause-ready : goal.returns-in-Cmd-Drain-clause-ready
returns-in-Cmd-Drain-clause-ready g c = line-ready c.shared_is_known.ensures.stays 1 c.collect-in-Cmd-Drain.result _ c.args.registry.now c.args.board.now _ c.args.self.now c.collect-in-Cmd-Drain.new.self _ _ c.requires.ready c.collect-in-Cmd-Drain.ensures

pub returns-in-Cmd-Drain-clause-unwritten : goal.returns-in-Cmd-Drain-clause-unwritten
returns-in-Cmd-Drain-clause-unwritten g c = line-unwritten c.collect-in-Cmd-Drain.result _ _ c.args.self.now c.collect-in-Cmd-Drain.new.self _ _ c.collect-in-Cmd-Drain.ensures

pub returns-in-Cmd-Drain-clause-uncalled : goal.returns-in-Cmd-Drain-clause-uncalled
returns-in-Cmd-Drain-clause-uncalled g c = line-uncalled c.collect-in-Cmd-Drain.result _ _ _ c.args.self.now c.collect-in-Cmd-Drain.new.self _ _ c.collect-in-Cmd-Drain.ensures

pub returns-in_default-clause-done : goal.returns-in_default-clause-done
returns-in_default-clause-done g c =
    let s = c.args.self.now in
    let replied = answers-reply _ c.say_line.result _ s c.say_line.new.self _ _ c.say_line.ensures.done in
    elim c.in_default-1.branch [
      | in_default-via-in-Cmd+in-Aes-1 w ↦ done-on c.say_line.result s c.say_line.new.self c.args.number c.args.line _ _ _ (search rules) replied
      | in_default-via-in-Nothing-1 w ↦ done-on c.say_line.result s c.say_line.new.self c.args.number c.args.line _ _ _ (sym w.line-is) replied
    ]

pub returns-in_default-clause-ready : goal.returns-in_default-clause-ready
returns-in_default-clause-ready g c = line-ready c.shared_is_known.ensures.stays _ c.say_line.result _ c.args.registry.now c.args.board.now _ c.args.self.now c.say_line.new.self _ _ c.requires.ready c.say_line.ensures.done

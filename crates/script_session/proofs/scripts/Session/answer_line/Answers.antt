use Rattle.std.proofs.Common.{refl}
use Rattle.script_text.specs.declared.commands.Line.TheVariants as line
use Rattle.script_session.proofs.Arms.{on-ok, or-stops, answer-holds}
use Rattle.script_session.proofs.Breaking.{stops-none}
use Rattle.script_session.proofs.Commands.{line-arm, line-holds, nothing-holds, answered-ready}
use Rattle.script_session.proofs.scripts.Session.answer_line.Goals as goal

pub returns-in-Nothing-clause-done : goal.returns-in-Nothing-clause-done
returns-in-Nothing-clause-done g c =
    line-holds c.args.self.now c.args.self.now c.args.number c.args.line line.Nothing _ _ c.in-Nothing.is (nothing-holds c.args.self.now c.args.answers.now.items c.requires.ready.stands c.requires.ready.posted)

pub returns-in-Malformed-clause-done : goal.returns-in-Malformed-clause-done
returns-in-Malformed-clause-done g c =
    line-arm c.say.result c.args.self.now _ c.args.number c.args.line line.Malformed _ _ c.in-Malformed.is
    (or-stops c.say.result c.say.ensures (answer-holds _ c.args.self.now c.args.self.now _ _ _ refl refl refl refl refl c.requires.ready.stands c.requires.ready.posted) (stops-none _ c.args.self.now c.requires.ready.stands))

pub returns-in-Malformed-clause-ready : goal.returns-in-Malformed-clause-ready
returns-in-Malformed-clause-ready g c = on-ok c.say.result c.say.ensures (λ says. c.requires.ready)

pub returns-in-Cmd-clause-done : goal.returns-in-Cmd-clause-done
returns-in-Cmd-clause-done g c = line-arm c.command.result c.args.self.now _ c.args.number c.args.line (line.Cmd c.in-Cmd.command) _ _ c.in-Cmd.is c.command.ensures

pub returns-in-Cmd-clause-ready : goal.returns-in-Cmd-clause-ready
returns-in-Cmd-clause-ready g c = answered-ready c.shared_is_known.ensures.stays _ c.command.result _ c.args.registry.now c.args.board.now _ c.args.self.now c.command.new.self _ _ c.requires.ready c.command.ensures

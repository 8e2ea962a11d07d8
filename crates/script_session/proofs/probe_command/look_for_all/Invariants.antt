use Rattle.std.proofs.Common.{take}
use Rattle.script_session.specs.Probe.{LooksFirst}
use Rattle.script_session.proofs.probe_command.look_for_all.Given as goal

abbrev pub invariant-loop-text : goal.invariant-loop-text
invariant-loop-text g l = LooksFirst l.fn.caller l.caller (take l.text-index l.fn.texts) l.searches.items

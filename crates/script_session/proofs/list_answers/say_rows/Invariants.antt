use Rattle.std.proofs.Common.{◌≡◌, ◌++◌, map, take}
use Rattle.dialogues.specs.RegistryCommands.{row_said}
use Rattle.script_session.proofs.list_answers.say_rows.Given as goal

abbrev pub invariant-loop-row : goal.invariant-loop-row
invariant-loop-row l = l.answers.items ≡ l.initial.answers.items ++ map (row_said l.line) (take l.row-index l.rows)

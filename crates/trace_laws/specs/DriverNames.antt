-- Drivers that a script names.
use Rattle.std.specs.Prelude.{◌≡◌, true, ⊤}
use Rattle.dialogues.specs.RegistryCalls.{RegCall, Unlists, Counts}
use Rattle.script_text.specs.declared.commands.Command.TheVariants.{Unregister, Refs}
use Rattle.script_text.specs.declared.commands.Line.{Line}
use Rattle.script_text.specs.declared.commands.Line.TheVariants.{Cmd}
use Rattle.trace_text.specs.Trace.{is_word}

-- what the line asks of a driver, it asks of a word
abbrev pub NamesWords : Line → Type 0
NamesWords (Cmd (Unregister driver)) = is_word driver ≡ true
NamesWords (Cmd (Refs driver)) = is_word driver ≡ true
NamesWords _ = ⊤

-- the same of a call
abbrev pub AsksOfWord : RegCall → Type 0
AsksOfWord (Unlists driver id) = is_word driver ≡ true
AsksOfWord (Counts driver answer) = is_word driver ≡ true
AsksOfWord _ = ⊤

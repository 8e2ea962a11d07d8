-- Lines of a script.
use Rattle.std.specs.Prelude.{Bool, true, false}
use Rattle.script_text.specs.declared.commands.Line.{Line}
use Rattle.script_text.specs.declared.commands.Line.TheVariants.{Nothing, Malformed, Cmd}

abbrev pub is_malformed : Line → Bool
is_malformed Nothing = false
is_malformed Malformed = true
is_malformed (Cmd command) = false

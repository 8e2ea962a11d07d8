-- How many looks a script has at once.
use Rattle.std.specs.Prelude.{ℕ, max, List, [], ◌∷◌, length}
use Rattle.script_text.specs.declared.commands.Command.{Command}
use Rattle.script_text.specs.declared.commands.Command.TheVariants.{Probe}
use Rattle.script_text.specs.declared.commands.Line.{Line}
use Rattle.script_text.specs.declared.commands.Line.TheVariants.{Cmd}

-- a probe makes a look for each of its names at once; every other line asks one thing after the other
abbrev pub command_width : Command → ℕ
command_width (Probe names) = length names
command_width other = 1

abbrev pub width_of : Line → ℕ
width_of (Cmd command) = command_width command
width_of other = 1

abbrev pub widest : List Line → ℕ
widest [] = 1
widest (line ∷ lines) = max (width_of line) (widest lines)

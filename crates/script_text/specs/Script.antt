-- What a script says, line by line.
use Rattle.std.specs.Prelude.{ℕ, ◌-◌, nat_lt, if◌then◌else◌, List, [], ◌∷◌, length, map, Option, Some, None}
use Rattle.std.specs.List.{list_all}
use Rattle.script_text.specs.Lines.{lines_of, ends_with, without_last, without_return}
use Rattle.script_text.specs.Tokens.{tokens_of, is_visible, is_comment}
use Rattle.script_text.specs.Commands.{command_of}
use Rattle.script_text.specs.declared.commands.Command.{Command}
use Rattle.script_text.specs.declared.commands.Line.{Line}
use Rattle.script_text.specs.declared.commands.Line.TheVariants.{Nothing, Malformed, Cmd}

abbrev pub command_line : Option Command → Line
command_line (Some command) = Cmd command
command_line None = Malformed

abbrev pub line_of_tokens : List (List ℕ) → Line
line_of_tokens [] = Nothing
line_of_tokens (name ∷ args) =
    if is_comment name then Nothing
    else if list_all (list_all is_visible) (name ∷ args) then command_line (command_of name args)
    else Malformed

-- by its text, and by how many bytes it has before its line feed
abbrev pub line_of_text : ℕ → List ℕ → Line
line_of_text count text = if nat_lt 65536 count then Malformed else line_of_tokens (tokens_of text)

-- A carriage return that no line feed follows is an ordinary byte.
abbrev pub line_of : List ℕ → Line
line_of line =
    if ends_with 10 line then line_of_text (length line - 1) (without_return (without_last line))
    else line_of_text (length line) line

abbrev pub script_of : List ℕ → List Line
script_of bytes = map line_of (lines_of bytes)

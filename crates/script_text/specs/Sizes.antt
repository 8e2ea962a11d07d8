-- How long the lists of bytes in a line are.
use Rattle.std.specs.Prelude.{ℕ, ◌^◌, ◌<◌, List, length, All}
use Rattle.script_text.specs.declared.commands.Command.{Command}
use Rattle.script_text.specs.declared.commands.Command.TheVariants as says
use Rattle.script_text.specs.declared.commands.Line.{Line}
use Rattle.script_text.specs.declared.commands.Line.TheVariants.{Nothing, Malformed, Cmd}

abbrev pub IsShort : List ℕ → Type 0
IsShort bytes = length bytes < 2 ^ 32

abbrev pub IsShortCommand : Command → Type 0
IsShortCommand (says.Aes key block) = IsShort key × IsShort block
IsShortCommand (says.Register driver priority) = IsShort driver
IsShortCommand (says.Unregister driver) = IsShort driver
IsShortCommand (says.Probe names) = All IsShort names
IsShortCommand (says.Alloc label name length) = IsShort label × IsShort name
IsShortCommand (says.Key label key) = IsShort label × IsShort key
IsShortCommand (says.Authsize label size) = IsShort label
IsShortCommand (says.Enc label iv aad text backlog) = IsShort label × IsShort iv × IsShort aad × IsShort text.text
IsShortCommand (says.Dec label iv aad text backlog) = IsShort label × IsShort iv × IsShort aad × IsShort text.text
IsShortCommand (says.Mac label text backlog) = IsShort label × IsShort text.text
IsShortCommand (says.Bulk label size seed) = IsShort label
IsShortCommand (says.Mask label mask) = IsShort label
IsShortCommand (says.Hold label) = IsShort label
IsShortCommand (says.Go label) = IsShort label
IsShortCommand (says.Poll label) = IsShort label
IsShortCommand (says.Drain label) = IsShort label
IsShortCommand (says.Free label) = IsShort label
IsShortCommand (says.Refs driver) = IsShort driver
IsShortCommand says.List = Unit {0}

-- every list of bytes in the line is shorter than 2^32
abbrev pub IsShortLine : Line → Type 0
IsShortLine Nothing = Unit {0}
IsShortLine Malformed = Unit {0}
IsShortLine (Cmd command) = IsShortCommand command

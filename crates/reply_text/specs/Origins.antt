-- How a line of a client's script is written.
use Rattle.std.specs.Prelude.{ℕ, ◌==◌, if◌then◌else◌, List, ◌++◌, codes}
use Rattle.std.specs.Fmt.{decimal}
use Rattle.reply_text.specs.declared.origin.Origin.{Origin}

-- A line of client 0 is its number; that of another client has the client's number and a dot before it.
abbrev pub origin_word : Origin → List ℕ
origin_word of = if of.client == 0 then decimal of.line else decimal of.client ++ codes "." ++ decimal of.line

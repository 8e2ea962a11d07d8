-- Words of the private contracts.
use Rattle.std.specs.Prelude.{◌&&◌, ◌==◌, ℕ, Bool, not, List, Result, Ok, Err, if◌then◌else◌, length, nat_lt, slice_index}
use Rattle.clap.specs.Words.{Row, Text, matches_of}
use Rattle.command_line.specs.CommandLine.{is_accepted, script_app}
use Rattle.command_line.specs.Number.{has_no_leading_zero}
use Rattle.command_line.specs.declared.errors.CommandLineError.{CommandLineError}
use Rattle.command_line.specs.declared.errors.CommandLineError.TheVariants.{Syntax}

-- what `clap` finds in the words
abbrev pub rows_of_words : List Text → Result (List Row) CommandLineError
rows_of_words words = if is_accepted words then Ok (matches_of script_app words) else Err Syntax

-- there is a first byte, which is no plus (43) and no leading zero
abbrev pub has_plain_start : List ℕ → Bool
has_plain_start text = nat_lt 0 (length text) && (not (slice_index text 0 == 43) && has_no_leading_zero text)

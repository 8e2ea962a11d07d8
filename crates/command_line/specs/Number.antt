-- A number as a word of the command line writes it.
use Rattle.std.specs.Prelude.{◌&&◌, ◌||◌, ◌==◌, ℕ, Bool, not, List, Option, Some, None, length}
use Rattle.std.specs.Prelude.{if◌then◌else◌, nat_le, slice_index}
use Rattle.std.specs.Str.Parse.{digits_value}
use Rattle.clap.specs.ValueTests.{is_numeral}

-- no zero (48) stands first, but alone
abbrev pub has_no_leading_zero : List ℕ → Bool
has_no_leading_zero text = length text == 1 || not (slice_index text 0 == 48)

-- one or more decimal digits and nothing else, without a leading zero
abbrev pub is_plain_number : List ℕ → Bool
is_plain_number text = is_numeral text && has_no_leading_zero text

-- the number that the text writes, where it writes one up to `most`
abbrev pub number_up_to : ℕ → List ℕ → Option ℕ
number_up_to most text =
    if is_plain_number text && nat_le (digits_value 10 text) most then Some (digits_value 10 text) else None

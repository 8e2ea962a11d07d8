-- The lines of a script.
use Rattle.std.specs.Prelude.{ℕ, ◌-◌, Bool, ◌&&◌, ◌==◌, nat_lt, if◌then◌else◌, List, [], ◌∷◌, length, take, slice_index}
use Rattle.std.specs.List.{onto_first}

abbrev pub is_feed : ℕ → Bool
is_feed b = b == 10

-- the lines of the input, each with the line feed that ends it; the last may end with the input
abbrev pub lines_of : List ℕ → List (List ℕ)
lines_of [] = []
lines_of (b ∷ bs) = if is_feed b then (b ∷ []) ∷ lines_of bs else onto_first b (lines_of bs)

abbrev pub ends_with : ℕ → List ℕ → Bool
ends_with byte line = nat_lt 0 (length line) && (slice_index line (length line - 1) == byte)

abbrev pub without_last : List ℕ → List ℕ
without_last line = take (length line - 1) line

-- what stands before a line feed, without the carriage return there
abbrev pub without_return : List ℕ → List ℕ
without_return line = if ends_with 13 line then without_last line else line

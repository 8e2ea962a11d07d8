-- The parts of a text in one piece: their bytes, one part behind the other, and how many each has.
use Rattle.std.specs.Prelude.{ℕ, Bool, ◌&&◌, ◌||◌, ◌==◌, nat_lt, nat_le, if◌then◌else◌, List, [], length, codes, Option, Some}
use Rattle.std.specs.List.{list_all}
use Rattle.std.specs.Str.{bytes_eq}
use Rattle.sg_walk.specs.Segments.{Segmented, segmented}
use Rattle.script_text.specs.Arguments.{◌>>=◌}

-- the parts, where they are spelled
abbrev pub in_segments : Option (List (List ℕ)) → Option Segmented
in_segments spelled = spelled >>= (λ parts. Some (segmented parts))

-- these bytes, where they are spelled, in segments of these sizes
abbrev pub spelled_in : List ℕ → Option (List ℕ) → Option Segmented
spelled_in sizes spelled = spelled >>= (λ bytes. Some (record { text = bytes; sizes = sizes }))

-- the digits of HEX: none of `-`
abbrev pub digits_of : List ℕ → List ℕ
digits_of part = if bytes_eq part (codes "-") then [] else part

-- one segment, or 2 to 16 of at least one byte each, by their sizes
abbrev pub are_sizes : List ℕ → Bool
are_sizes sizes = length sizes == 1 || (nat_le (length sizes) 16 && list_all (λ size. nat_lt 0 size) sizes)

-- Rows of words, in lanes.
use Rattle.std.specs.Prelude.{ℕ, List, map, slice_index}

-- the words of one lane
abbrev pub in_lane : List (List ℕ) → ℕ → List ℕ
in_lane rows lane = map (λ row. slice_index row lane) rows

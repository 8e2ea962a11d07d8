use Rattle.std.specs.Prelude.{ℕ, [], ◌∷◌, Some, None}
use Rattle.padata_core.specs.Pad.{Pad}

-- of five numbers that were taken 1, 3 and 4 are finished
abbrev pub five_taken : ℕ → Pad ℕ ℕ
five_taken lists = record { lists = lists; collected = 0; outcomes = None ∷ Some 11 ∷ None ∷ Some 13 ∷ Some 14 ∷ []; waiting = []; spare = 0 }

use Rattle.std.specs.Prelude.{ℕ, ◌+◌, ◌≤◌, ◌==◌, nat_lt, Bool, false, if◌then◌else◌, List, [], ◌∷◌, Option, Some, None}

-- A reorder list: outcomes with their numbers, and for how many there is room.
pub record Slot (F : Type 0) : Type 0 where
  pub entries : List (ℕ × F)
  pub room : ℕ

-- an outcome put before the first of a greater number
abbrev pub put : {F : Type 0} → ℕ → F → List (ℕ × F) → List (ℕ × F)
put n out [] = (n, out) ∷ []
put n out (e ∷ es) = if nat_lt n e.0 then (n, out) ∷ e ∷ es else e ∷ put n out es

abbrev pub first_is : {F : Type 0} → ℕ → List (ℕ × F) → Bool
first_is n [] = false
first_is n (e ∷ es) = e.0 == n

-- numbers from a first one on, each greater than the one before
abbrev pub IsRising : {F : Type 0} → ℕ → List (ℕ × F) → Type 0
IsRising from [] = Unit {0}
IsRising from (e ∷ es) = (from ≤ e.0) × IsRising (e.0 + 1) es

-- the outcome that a list has under a number
abbrev pub found : {F : Type 0} → ℕ → List (ℕ × F) → Option F
found n [] = None
found n (e ∷ es) = if e.0 == n then Some e.1 else found n es

-- The references of entries that a caller has, counted over its calls.
use Rattle.std.specs.Prelude.{ℕ, ◌+◌, ◌<◌, ◌==◌, Bool, false, ◌&&◌, if◌then◌else◌, List, [], ◌∷◌, filter}
use Rattle.alg_registry.specs.declared.entry.RegEntry.{RegEntry}
use Rattle.alg_registry.specs.Legal.{HasReference}
use Rattle.alg_registry.specs.Rows.{caller_of}
use Rattle.dialogues.specs.RegistryCalls.{RegCall, Gets, Puts, reg_calls}

abbrev pub is_get : ℕ → RegCall → Bool
is_get id (Gets of ok) = ok && of == id
is_get id _ = false

abbrev pub is_put : ℕ → RegCall → Bool
is_put id (Puts of) = of == id
is_put id _ = false

-- how often the caller got a reference of the entry, and gave one back
abbrev pub got : ℕ → List RegCall → ℕ
got id [] = 0
got id (call ∷ calls) = (if is_get id call then 1 else 0) + got id calls

abbrev pub given : ℕ → List RegCall → ℕ
given id [] = 0
given id (call ∷ calls) = (if is_put id call then 1 else 0) + given id calls

-- Law: who got more references than it gave back has one, by its own entries alone.
abbrev pub ReferencesFollow : Type 0
ReferencesFollow =
    (caller id : ℕ) (h : List RegEntry) → given id (reg_calls caller h) < got id (reg_calls caller h)
    → HasReference (filter (λ e. caller_of e == caller) h) caller id

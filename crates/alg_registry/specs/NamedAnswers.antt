-- What the answers of looks and the ends of larvals name.
use Rattle.std.specs.Prelude.{ℕ, ◌<◌, ◌≡◌, Bool, List, ◌∷◌, ◌++◌, length, slice_get, Some, Ok, ⊤}
use Rattle.alg_registry.specs.declared.entry.Looked.{Looked}
use Rattle.alg_registry.specs.declared.entry.Looked.TheVariants.{Found, Pending, Began, Absent}
use Rattle.alg_registry.specs.declared.entry.RegEntry.{RegEntry}
use Rattle.alg_registry.specs.declared.entry.RegEntry.TheVariants.{Look}
use Rattle.alg_registry.specs.Rows.{texts, registered}
use Rattle.alg_registry.specs.Legal.{LegalReg, ended_as}
use Rattle.alg_registry.specs.Made.{outcome_of}

-- the entry that a look found exists, and the larval that it names has the text of the look
abbrev pub IsNamed : List RegEntry → List ℕ → Looked → Type 0
IsNamed h text (Found id) = id < length (registered h)
IsNamed h text (Pending larval) = slice_get (texts h) larval ≡ Some text
IsNamed h text (Began larval) = slice_get (texts h) larval ≡ Some text
IsNamed h text Absent = ⊤

-- so it is for each look, however the history went on
abbrev pub LooksName : Type 0
LooksName =
    (before later : List RegEntry) (caller : ℕ) (text : List ℕ) (plain : Bool) (answer : Looked)
    → LegalReg (before ++ Look caller text plain answer ∷ later) → IsNamed (before ++ Look caller text plain answer ∷ later) text answer

-- the entry to which a larval came exists
abbrev pub EndsName : Type 0
EndsName = (h : List RegEntry) (larval id : ℕ) → LegalReg h → outcome_of (ended_as h larval) ≡ Some (Ok id) → id < length (registered h)

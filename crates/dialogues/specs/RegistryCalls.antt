-- What one caller asked of the registry, and what came of it: a history as a script sees it.
use Rattle.std.specs.Prelude.{ℕ, ◌≡◌, Bool, true, false, ◌==◌, if◌then◌else◌, List, [], ◌∷◌, ◌++◌, Option, Some, None}
use Rattle.alg_registry.specs.declared.spec.Spec.{Spec}
use Rattle.alg_registry.specs.declared.entry.Enlisted.{Enlisted}
use Rattle.alg_registry.specs.declared.entry.RefAnswer.{RefAnswer}
use Rattle.alg_registry.specs.declared.entry.RegEntry.{RegEntry}
use Rattle.alg_registry.specs.declared.entry.RegEntry.TheVariants as entry
use Rattle.alg_registry.specs.declared.listing.ListRow.{ListRow}
use Rattle.alg_registry.specs.Rows.{rows_of}
use Rattle.alg_registry.specs.Calls.{refs_answer, listing}
use Rattle.templates.specs.LookResults.{Found, found_in}

-- A call of a script, and what came of it. A look has come to nothing while its larval hasn't ended, or where it ended
-- for want of memory.
pub data RegCall : Type 0 where
  Enlists : (spec : Spec) → (answer : Enlisted) → RegCall
  Looks : (text : List ℕ) → (found : Option Found) → RegCall
  Unlists : (driver : List ℕ) → (id : Option ℕ) → RegCall
  Gets : (id : ℕ) → (ok : Bool) → RegCall
  Puts : (id : ℕ) → RegCall
  Counts : (driver : List ℕ) → (answer : Option RefAnswer) → RegCall
  Lists : (rows : List ListRow) → RegCall

abbrev pub if_own : {Call : Type 0} → ℕ → ℕ → Call → Option Call
if_own caller by call = if by == caller then Some call else None

-- The call of the script that an entry of the history h is, where it is one; `before` stands before the entry. Looks
-- for building, claims, ends and waits are work.
abbrev pub reg_call_of : List RegEntry → ℕ → List RegEntry → RegEntry → Option RegCall
reg_call_of h caller before (entry.Enlist by spec answer) = if_own caller by (Enlists spec answer)
reg_call_of h caller before (entry.Look by text plain answer) = if plain then None else if_own caller by (Looks text (found_in h answer))
reg_call_of h caller before (entry.Unlist by driver answer) = if_own caller by (Unlists driver answer)
reg_call_of h caller before (entry.Get by id ok) = if_own caller by (Gets id ok)
reg_call_of h caller before (entry.Put by id) = if_own caller by (Puts id)
reg_call_of h caller before (entry.Refs by driver) = if_own caller by (Counts driver (refs_answer (rows_of before) driver))
reg_call_of h caller before (entry.List by) = if_own caller by (Lists (listing (rows_of before)))
reg_call_of h caller before (entry.Claim by larval) = None
reg_call_of h caller before (entry.End by larval answer) = None
reg_call_of h caller before (entry.Waited by larval) = None

abbrev pub prepend : {Call : Type 0} → Option Call → List Call → List Call
prepend (Some call) calls = call ∷ calls
prepend None calls = calls

abbrev pub reg_calls_from : List RegEntry → ℕ → List RegEntry → List RegEntry → List RegCall
reg_calls_from h caller before [] = []
reg_calls_from h caller before (next ∷ later) = prepend (reg_call_of h caller before next) (reg_calls_from h caller (before ++ next ∷ []) later)

-- the calls of the caller's script in a history, in order
unfoldable pub reg_calls : ℕ → List RegEntry → List RegCall
reg_calls caller h = reg_calls_from h caller [] h

-- the call has come to something
abbrev pub is_settled : RegCall → Bool
is_settled (Looks text None) = false
is_settled _ = true

abbrev pub AllSettled : List RegCall → Type 0
AllSettled [] = Unit {0}
AllSettled (call ∷ calls) = (is_settled call ≡ true) × AllSettled calls

-- What a caller knows, by what it has seen and by its own entries, of what it builds.
use Rattle.std.specs.Prelude.{ℕ, ◌≡◌, Bool, true, false, ◌==◌, if◌then◌else◌, List, [], length, slice_get, Option, Some, None, Result, Ok, Err, IsTrue, IsFalse, IsSome, ⊤}
use Rattle.std.specs.List.{filter_map, list_any}
use Rattle.std.specs.Option.{option_and_then}
use Rattle.kc_base.specs.declared.error_numbers.Errno.{Errno}
use Rattle.alg_registry.specs.declared.spec.Spec.{Spec}
use Rattle.alg_registry.specs.declared.entry.Looked.{Looked}
use Rattle.alg_registry.specs.declared.entry.Ended.{Ended}
use Rattle.alg_registry.specs.declared.entry.Ended.TheVariants.{Failed, NoMemory}
use Rattle.alg_registry.specs.declared.entry.RegEntry.{RegEntry}
use Rattle.alg_registry.specs.Rows.{registered, texts, first_of, claims}
use Rattle.alg_registry.specs.Legal.{is_worker}
use Rattle.alg_registry.specs.Made.{building, last_of, looks_for, outcomes, next_of, with_spec}
use Rattle.templates.specs.Table.{table}
use Rattle.turn_lock.specs.Turns.{Known}

-- the larvals that the caller claimed and hasn't ended, the last claimed last
abbrev pub open_of : Known RegEntry → List ℕ
open_of k = building k.made k.number

-- the caller is building the larval
abbrev pub IsOpen : Known RegEntry → ℕ → Type 0
IsOpen k larval = IsTrue (list_any (λ m. m == larval) (open_of k))

-- the answers of the caller's looks for the larval
abbrev pub own_looks : Known RegEntry → ℕ → List Looked
own_looks k larval = looks_for larval [] k.made

-- the child for which the caller has to look next: those before it came to entries
abbrev pub next_asked : Known RegEntry → Option (List ℕ)
next_asked k = option_and_then (λ larval. option_and_then (λ text. next_of k.seen (own_looks k larval) (table.children text)) (slice_get (texts k.seen) larval)) (last_of (open_of k))

abbrev pub handed_over : List RegEntry → List ℕ → List (List ℕ) → Option (Result (List ℕ) Errno) → Option (Result Spec Errno)
handed_over h text children None = None
handed_over h text children (Some (Err errno)) = Some (Err errno)
handed_over h text children (Some (Ok ids)) = if length ids == length children then Some (table.derived text (filter_map (with_spec (registered h)) ids)) else None

abbrev pub handed_by : List RegEntry → List ℕ → List Looked → Result (List (List ℕ)) Errno → Option (Result Spec Errno)
handed_by h text looks (Err errno) = Some (Err errno)
handed_by h text looks (Ok children) = handed_over h text children (outcomes h looks)

-- what the templates make of the larval: the instance, or the number with which it fails; nothing while a look is left
abbrev pub handed : Known RegEntry → ℕ → Option (Result Spec Errno)
handed k larval = option_and_then (λ text. handed_by k.seen text (own_looks k larval) (table.children text)) (slice_get (texts k.seen) larval)

-- the caller may hand this in
abbrev pub MayHand : Known RegEntry → ℕ → Result Spec Ended → Type 0
MayHand k larval (Ok spec) = handed k larval ≡ Some (Ok spec)
MayHand k larval (Err (Failed errno)) = handed k larval ≡ Some (Err errno)
MayHand k larval (Err NoMemory) = ⊤
MayHand k larval (Err _) = ⊥

-- it may look for the text: for any, where it is no worker; for plain entries alone, where the text is the next child
-- of what it claimed last
abbrev pub MayLook : Known RegEntry → List ℕ → Bool → Type 0
MayLook k text false = IsTrue (table.is_name text) × IsFalse (is_worker k.number)
MayLook k text true = IsTrue (table.is_name text) × (next_asked k ≡ Some text)

-- the caller claimed the larval
abbrev pub IsOwn : Known RegEntry → ℕ → Type 0
IsOwn k larval = IsSome (first_of (claims larval) k.made)

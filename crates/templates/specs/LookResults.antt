-- What a look comes to in a history.
use Rattle.std.specs.Prelude.{ℕ, ◌<◌, ◌≡◌, Bool, false, ◌==◌, if◌then◌else◌, List, [], ◌∷◌, ◌++◌, length, filter, slice_get, Option, Some, None, IsSome, Result, Ok, Err, ⊤}
use Rattle.kc_base.specs.declared.error_numbers.Errno.{Errno}
use Rattle.alg_registry.specs.declared.spec.Spec.{Spec}
use Rattle.alg_registry.specs.declared.entry.Looked.{Looked}
use Rattle.alg_registry.specs.declared.entry.RegEntry.{RegEntry}
use Rattle.alg_registry.specs.declared.entry.RegEntry.TheVariants as entry
use Rattle.alg_registry.specs.Rows.{texts, registered}
use Rattle.alg_registry.specs.Legal.{ended_as}
use Rattle.alg_registry.specs.Made.{outcome}
use Rattle.templates.specs.declared.build_errors.BuildErr.{BuildErr}
use Rattle.templates.specs.declared.build_errors.BuildErr.TheVariants as build

-- an entry, or a number
pub data Found : Type 0 where
  Entry : (id : ℕ) → (spec : Spec) → Found
  Fault : (errno : Errno) → Found

abbrev pub entry_found : ℕ → Option Spec → Option Found
entry_found id (Some spec) = Some (Entry id spec)
entry_found id None = None

abbrev pub found_as : List RegEntry → Option (Result ℕ Errno) → Option Found
found_as h (Some (Ok id)) = entry_found id (slice_get (registered h) id)
found_as h (Some (Err errno)) = Some (Fault errno)
found_as h None = None

abbrev pub found_in : List RegEntry → Looked → Option Found
found_in h answer = found_as h (outcome h answer)

-- what a script asks: every call of its caller but those of building
abbrev pub is_asked : ℕ → RegEntry → Bool
is_asked caller (entry.Enlist by spec answer) = by == caller
is_asked caller (entry.Look by text plain answer) = if plain then false else by == caller
is_asked caller (entry.Unlist by driver answer) = by == caller
is_asked caller (entry.Get by id ok) = by == caller
is_asked caller (entry.Put by id) = by == caller
is_asked caller (entry.Refs by driver) = by == caller
is_asked caller (entry.List by) = by == caller
is_asked caller _ = false

-- a look has come to this, and nothing else was asked
pub record LooksFor (old new : List RegEntry) (caller : ℕ) (text : List ℕ) (plain : Bool) (found : Found) : Type 0 where
  pub answer : Looked
  pub work : List RegEntry
  pub history : new ≡ old ++ entry.Look caller text plain answer ∷ work
  pub all_work : filter (is_asked caller) work ≡ []
  pub found_is : found_in new answer ≡ Some found

abbrev pub Resolved : List RegEntry → List RegEntry → ℕ → List ℕ → Bool → Result ℕ BuildErr → Type 0
Resolved old new caller text plain (Ok id) = (spec : Spec) × LooksFor old new caller text plain (Entry id spec)
Resolved old new caller text plain (Err (build.Fault errno)) = LooksFor old new caller text plain (Fault errno)
Resolved old new caller text plain (Err build.Memory) = ⊤

-- where memory did not lack
abbrev pub UnlessMemory : {A : Type 0} → Result A BuildErr → Type 0 → Type 0
UnlessMemory (Err build.Memory) P = ⊤
UnlessMemory r P = P

-- no larval is pending
abbrev pub NonePending : List RegEntry → Type 0
NonePending h = (n : ℕ) → n < length (texts h) → IsSome (ended_as h n)

-- The table of larvals, and which of them a look has to see.
use Rattle.std.specs.Prelude.{ℕ, ◌+◌, Bool, true, false, not, ◌==◌, ◌&&◌, ◌||◌, if◌then◌else◌, List, [], ◌∷◌, slice_get, Option, Some, None}
use Rattle.std.specs.List.{filter, list_any}
use Rattle.std.specs.Option.{option_and_then, option_map_or}
use Rattle.std.specs.Str.{bytes_eq}
use Rattle.alg_registry.specs.declared.entry.Ended.{Ended}
use Rattle.alg_registry.specs.declared.entry.Ended.TheVariants.{Built, Joined, Failed, NoMemory}
use Rattle.alg_registry.specs.declared.row.Row.{Row}
use Rattle.alg_registry.specs.declared.row.Larval.{Larval}
use Rattle.alg_registry.specs.Rows.{listed_at}
use Rattle.alg_registry.specs.Answers.{may_find, better}

-- the larvals by number, the numbers of those that a look goes over, and for how many more there is room
pub record LarvalTable : Type 0 where
  pub list : List Larval
  pub seen : List ℕ
  pub spare : ℕ

-- the entry with which a larval ended
abbrev pub entry_of : Option Ended → Option ℕ
entry_of (Some (Built id)) = Some id
entry_of (Some (Joined id)) = Some id
entry_of _ = None

-- a larval that is pending, or ended with a listed entry
abbrev pub is_seen_end : List Row → Option Ended → Bool
is_seen_end rows None = true
is_seen_end rows (Some (Built id)) = listed_at rows id
is_seen_end rows (Some (Joined id)) = listed_at rows id
is_seen_end rows (Some (Failed errno)) = false
is_seen_end rows (Some NoMemory) = false

abbrev pub is_seen : List Row → Larval → Bool
is_seen rows larval = is_seen_end rows larval.ended

-- the numbers of these larvals that pass the test, where the first has this number
abbrev pub numbers_of : (Larval → Bool) → ℕ → List Larval → List ℕ
numbers_of test first [] = []
numbers_of test first (larval ∷ larvals) = if test larval then first ∷ numbers_of test (first + 1) larvals else numbers_of test (first + 1) larvals

-- the numbers of those that a look has to see
abbrev pub seen_from : List Row → ℕ → List Larval → List ℕ
seen_from rows first larvals = numbers_of (is_seen rows) first larvals

-- the larval of the number passes the test
abbrev pub passes_at : (Larval → Bool) → List Larval → ℕ → Bool
passes_at test larvals number = option_map_or test (slice_get larvals number) false

-- a larval ends with an entry
abbrev pub ends_with_entry : Ended → Bool
ends_with_entry (Built id) = true
ends_with_entry (Joined id) = true
ends_with_entry (Failed errno) = false
ends_with_entry NoMemory = false

-- those that are left to see, where the larval of the number has ended so
abbrev pub seen_after : Ended → ℕ → List ℕ → List ℕ
seen_after ended number seen = if ends_with_entry ended then seen else filter (λ other. not (other == number)) seen

-- the entry with which a larval of the text ended
abbrev pub joined_as : List ℕ → Larval → Option ℕ
joined_as text larval = if bytes_eq larval.text text then entry_of larval.ended else None

-- the same, of the larvals of these numbers
abbrev pub joined_at : List ℕ → List Larval → ℕ → Option ℕ
joined_at text larvals number = option_and_then (joined_as text) (slice_get larvals number)

-- the entry answers to the text, where larvals of the text ended with the entries of these ids
abbrev pub answers_by : List ℕ → List ℕ → Bool → ℕ → Row → Bool
answers_by joined text plain id row = may_find plain row && (bytes_eq row.spec.name text || list_any (λ other. other == id) joined)

-- the best of the entries that do
abbrev pub best_by : List ℕ → List ℕ → Bool → ℕ → List Row → Option (ℕ × ℕ)
best_by joined text plain id [] = None
best_by joined text plain id (row ∷ newer) = if answers_by joined text plain id row then better id row (best_by joined text plain (id + 1) newer) else best_by joined text plain (id + 1) newer

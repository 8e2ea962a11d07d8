-- How calls end: want of memory changes nothing, and any other answer is recorded.
use Rattle.std.specs.Prelude.{ℕ, ◌+◌, ◌-◌, ◌≡◌, Bool, true, false, ◌&&◌, if◌then◌else◌, List, ◌∷◌, [], Option, Some, None, is_none, slice_get, length, Result, Ok, Err, ⊤}
use Rattle.std.specs.List.{position_from, filter_map}
use Rattle.std.specs.Option.{option_map_or, option_map, option_and_then, option_or}
use Rattle.std.specs.Str.{bytes_eq}
use Rattle.alg_registry.specs.declared.spec.Spec.{Spec}
use Rattle.alg_registry.specs.declared.entry.Claimed.{Claimed}
use Rattle.alg_registry.specs.declared.entry.Ended.{Ended}
use Rattle.alg_registry.specs.declared.entry.Ended.TheVariants as ended
use Rattle.alg_registry.specs.declared.entry.EndAnswer.{EndAnswer}
use Rattle.alg_registry.specs.declared.entry.EndAnswer.TheVariants.{Built, Joined, Failed, NoMemory}
use Rattle.alg_registry.specs.declared.registry.Judged.{Judged}
use Rattle.alg_registry.specs.declared.registry.Judged.TheVariants.{Fails, Joins, Builds}
use Rattle.alg_registry.specs.declared.entry.RegEntry.{RegEntry}
use Rattle.alg_registry.specs.declared.entry.RegEntry.TheVariants.{Claim, Waited}
use Rattle.alg_registry.specs.declared.entry.RefAnswer.{RefAnswer}
use Rattle.alg_registry.specs.declared.listing.ListRow.{ListRow}
use Rattle.alg_registry.specs.Rows.{is_held}
use Rattle.alg_registry.specs.Answers.{built_answer}
use Rattle.alg_registry.specs.declared.entry.RegErr.{RegErr}
use Rattle.alg_registry.specs.declared.entry.RegErr.TheVariants.{Exist, NoEnt, Again, NFile, Memory}
use Rattle.alg_registry.specs.declared.entry.Enlisted.{Enlisted}
use Rattle.alg_registry.specs.declared.entry.Enlisted.TheVariants as enlisted
use Rattle.alg_registry.specs.declared.row.Row.{Row}
use Rattle.alg_registry.specs.declared.row.Larval.{Larval}

-- where memory did not lack
abbrev pub UnlessMemory : {A : Type 0} → Result A RegErr → Type 0 → Type 0
UnlessMemory (Err Memory) P = ⊤
UnlessMemory r P = P

-- where it did
abbrev pub OnMemory : {A : Type 0} → Result A RegErr → Type 0 → Type 0
OnMemory (Err Memory) P = P
OnMemory r P = ⊤

abbrev pub enlist_result : Enlisted → Result ℕ RegErr
enlist_result (enlisted.Made id) = Ok id
enlist_result enlisted.Exist = Err Exist
enlist_result enlisted.NFile = Err NFile

abbrev pub unlist_result : Option ℕ → Result (Unit {0}) RegErr
unlist_result (Some id) = Ok tt
unlist_result None = Err NoEnt

abbrev pub get_result : Bool → Result (Unit {0}) RegErr
get_result true = Ok tt
get_result false = Err Again

-- a larval that nobody has claimed
abbrev pub is_unclaimed : Larval → Bool
is_unclaimed larval = is_none larval.ended && is_none larval.claimed

-- the larval of the number, where it is unclaimed
abbrev pub unclaimed_at : List Larval → ℕ → Option ℕ
unclaimed_at larvals number = if option_map_or is_unclaimed (slice_get larvals number) false then Some number else None

-- the larval that a claim gets: the one that is named, or the oldest
abbrev pub claimed_number : List Larval → Option ℕ → Option ℕ
claimed_number larvals (Some number) = unclaimed_at larvals number
claimed_number larvals None = position_from is_unclaimed 0 larvals

abbrev pub text_at : List Larval → ℕ → List ℕ
text_at larvals number = option_map_or (λ larval. larval.text) (slice_get larvals number) []

abbrev pub claimed_answer : List Larval → Option ℕ → Option Claimed
claimed_answer larvals named = option_map (λ number. record { larval = number; text = text_at larvals number }) (claimed_number larvals named)

-- what a claim adds to the history
abbrev pub claim_entries : ℕ → Option ℕ → List RegEntry
claim_entries caller (Some number) = Claim caller number ∷ []
claim_entries caller None = []

-- the answer where an instance was handed in, or why none was
abbrev pub end_given : List Row → Result Spec Ended → EndAnswer
end_given rows (Ok spec) = built_answer rows spec
end_given rows (Err (ended.Failed errno)) = Failed errno
end_given rows (Err _) = NoMemory

abbrev pub unless_memory : Ended → EndAnswer → EndAnswer
unless_memory ended.NoMemory answer = NoMemory
unless_memory result answer = answer

-- where memory did not lack
abbrev pub UnlessNoMemory : Ended → Type 0 → Type 0
UnlessNoMemory ended.NoMemory P = ⊤
UnlessNoMemory result P = P

-- where it did, or the larval was ended for want of it
abbrev pub OnNoMemory : Ended → Type 0 → Type 0
OnNoMemory ended.NoMemory P = P
OnNoMemory result P = ⊤

-- memory may lack for a new entry alone; beside it want of memory is what was handed in
abbrev pub MayLack : EndAnswer → Type 0
MayLack (Built id spec) = ⊤
MayLack NoMemory = ⊤
MayLack _ = ⊥

-- what the instance is to become is what the entries decide
abbrev pub Judges : List Row → Spec → Judged → Type 0
Judges rows spec (Fails errno) = built_answer rows spec ≡ Failed errno
Judges rows spec (Joins id) = built_answer rows spec ≡ Joined id spec.below
Judges rows spec Builds = built_answer rows spec ≡ Built (length rows) spec

-- what may be handed in where nothing was built
abbrev pub IsFailure : Ended → Type 0
IsFailure (ended.Failed errno) = ⊤
IsFailure ended.NoMemory = ⊤
IsFailure _ = ⊥

-- what a wait adds to the history
abbrev pub waited_entries : ℕ → ℕ → Option Ended → List RegEntry
waited_entries caller number None = []
waited_entries caller number (Some e) = Waited caller number ∷ []

-- the references of an entry, where it is held and of the driver
abbrev pub own_refs : List ℕ → Row → Option RefAnswer
own_refs driver row = if is_held row && bytes_eq row.spec.driver driver then Some (record { count = row.references; listed = row.listed }) else None

-- the references of the newest held entry of the driver
abbrev pub refs_answer : List Row → List ℕ → Option RefAnswer
refs_answer [] driver = None
refs_answer (row ∷ newer) driver = option_or (refs_answer newer driver) (own_refs driver row)

abbrev pub refs_result : Option RefAnswer → Result RefAnswer RegErr
refs_result (Some answer) = Ok answer
refs_result None = Err NoEnt

-- an entry as it is shown, while it is listed
abbrev pub shown : Row → Option ListRow
shown row = if row.listed then Some (record { name = row.spec.name; driver = row.spec.driver; priority = row.spec.priority; refs = row.references }) else None

-- the listed entries by id
abbrev pub listing : List Row → List ListRow
listing rows = filter_map shown rows

-- the entry of the id, while it is held
abbrev pub held_spec : List Row → ℕ → Option Spec
held_spec rows id = option_and_then (λ row. if is_held row then Some row.spec else None) (slice_get rows id)

abbrev pub new_row : Spec → Row
new_row spec = record { spec = spec; unlisted = false; taken = 0; listed = false; references = 0 }

-- a new entry that stands on no other
abbrev pub listed_row_of : Spec → Row
listed_row_of spec = record { spec = spec; unlisted = false; taken = 0; listed = true; references = 0 }

abbrev pub put_row_of : Row → Row
put_row_of row = record row { taken = row.taken - 1 }

abbrev pub claimed_larval : ℕ → Larval → Larval
claimed_larval caller larval = record larval { claimed = Some caller }

abbrev pub ended_larval : Ended → Larval → Larval
ended_larval e larval = record larval { ended = Some e }

abbrev pub unlisted_row : Row → Row
unlisted_row row = record row { unlisted = true }

abbrev pub taken_row : Row → Row
taken_row row = record row { taken = row.taken + 1 }

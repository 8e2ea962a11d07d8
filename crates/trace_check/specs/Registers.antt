-- What the checker keeps of a registry, and what it reads off that.
use Rattle.std.specs.Prelude.{ℕ, zero, suc, Bool, true, false, not, ◌&&◌, ◌||◌, ◌==◌, nat_le, if◌then◌else◌, List, [], ◌∷◌, ◌++◌, length, map, slice_get, Option, Some, None, is_none, is_some}
use Rattle.std.specs.List.{list_any, list_all}
use Rattle.std.specs.Option.{option_map_or}
use Rattle.alg_registry.specs.declared.spec.Spec.{Spec}
use Rattle.alg_registry.specs.declared.row.Row.{Row}
use Rattle.alg_registry.specs.declared.row.Larval.{Larval}
use Rattle.alg_registry.specs.declared.entry.Looked.{Looked}
use Rattle.alg_registry.specs.declared.entry.Looked.TheVariants.{Found, Pending, Began, Absent}
use Rattle.alg_registry.specs.declared.entry.Enlisted.{Enlisted}
use Rattle.alg_registry.specs.declared.entry.Enlisted.TheVariants.{Made, Exist, NFile}
use Rattle.alg_registry.specs.declared.entry.EndAnswer.{EndAnswer}
use Rattle.alg_registry.specs.declared.entry.EndAnswer.TheVariants.{Built, Joined, Failed, NoMemory}
use Rattle.alg_registry.specs.declared.entry.RegEntry.{RegEntry}
use Rattle.alg_registry.specs.declared.entry.RegEntry.TheVariants.{Enlist, Look, Claim, End, Waited, Unlist, Get, Put, Refs}
use Rattle.alg_registry.specs.declared.entry.RegEntry.TheVariants as reg
use Rattle.alg_registry.specs.Rows.{rows_of, listed_at, counted, marked, end_of}
use Rattle.alg_registry.specs.Calls.{new_row, unlisted_row, taken_row, put_row_of, claimed_larval, ended_larval}
use Rattle.alg_registry.specs.Answers.{look_answer, clashes_with, driver_place, held_count}
use Rattle.alg_registry.specs.Legal.{is_worker}
use Rattle.trace_check.specs.declared.reason.Reason.{Reason}
use Rattle.trace_check.specs.declared.register.Entry.{Entry}
use Rattle.trace_check.specs.declared.register.LarvalState.{LarvalState}
use Rattle.trace_check.specs.declared.register.Reference.{Reference}
use Rattle.trace_check.specs.Pipes.{same_number, reason_of}

abbrev pub row_of : Entry → Row
row_of e = record { spec = e.spec; unlisted = e.unlisted; taken = e.taken; listed = e.listed; references = 0 }

abbrev pub larval_of : LarvalState → Larval
larval_of l = record { text = l.text; claimed = l.claimed; ended = l.ended }

abbrev pub is_free : Larval → Bool
is_free larval = is_none larval.ended && is_none larval.claimed

abbrev pub is_being_built : Larval → Bool
is_being_built larval = is_some larval.claimed && is_none larval.ended

abbrev pub has_ended : Larval → Bool
has_ended larval = is_some larval.ended

abbrev pub is_claimed_by : ℕ → Larval → Bool
is_claimed_by caller larval = same_number larval.claimed (Some caller)

-- the larval of the number passes the test
abbrev pub passes : (Larval → Bool) → List Larval → ℕ → Bool
passes test larvals number = option_map_or test (slice_get larvals number) false

abbrev pub is_to : ℕ → Reference → Bool
is_to id r = r.id == id

abbrev pub is_of : ℕ → ℕ → Reference → Bool
is_of caller id r = r.caller == caller && (r.id == id)

-- an entry without its references
abbrev pub unreferred : Row → Row
unreferred row = record row { references = 0 }

-- the entries before the first event
abbrev pub opening_table : List Row
opening_table = map unreferred (rows_of [])

-- as many are held as may be
abbrev pub is_full : List Row → Bool
is_full table = nat_le 4096 (held_count (counted 0 table))

abbrev pub enlisted_by : List Row → Spec → Enlisted
enlisted_by table spec = if list_any (clashes_with spec) table then Exist else (if is_full table then NFile else Made (length table))

abbrev pub builds_by : List Row → Spec → Bool
builds_by table spec =
    list_all (listed_at table) spec.below && (is_none (driver_place table spec.driver) && (not (list_any (clashes_with spec) table) && not (is_full table)))

abbrev pub same_made : Enlisted → Enlisted → Bool
same_made (Made id) (Made right) = id == right
same_made answer right = true

abbrev pub alike_made : Enlisted → Enlisted → Bool
alike_made (Made id) (Made right) = true
alike_made Exist Exist = true
alike_made NFile NFile = true
alike_made answer right = false

abbrev pub same_found : Looked → Looked → Bool
same_found (Found id) (Found right) = id == right
same_found (Pending larval) (Pending right) = larval == right
same_found (Began larval) (Began right) = larval == right
same_found answer right = true

abbrev pub alike_found : Looked → Looked → Bool
alike_found (Found id) (Found right) = true
alike_found (Pending larval) (Pending right) = true
alike_found (Began larval) (Began right) = true
alike_found Absent Absent = true
alike_found answer right = false

abbrev pub same_place : Option ℕ → Option ℕ → Bool
same_place (Some id) (Some right) = id == right
same_place answer right = true

abbrev pub alike_place : Option ℕ → Option ℕ → Bool
alike_place (Some id) (Some right) = true
alike_place None None = true
alike_place answer right = false

abbrev pub same_flag : Bool → Bool → Bool
same_flag true b = b
same_flag false b = not b

-- The four parts of what an event needs.
abbrev pub has_state : List Larval → List Reference → RegEntry → Bool
has_state larvals references (Claim caller larval) = passes is_free larvals larval
has_state larvals references (End caller larval answer) = passes is_being_built larvals larval
has_state larvals references (Waited caller larval) = passes has_ended larvals larval
has_state larvals references (Put caller id) = list_any (is_to id) references
has_state larvals references _ = true

abbrev pub has_caller : List Larval → List Reference → RegEntry → Bool
has_caller larvals references (Enlist caller spec answer) = not (is_worker caller)
has_caller larvals references (Look caller text plain answer) = plain || not (is_worker caller)
has_caller larvals references (End caller larval answer) = passes (is_claimed_by caller) larvals larval
has_caller larvals references (Unlist caller driver answer) = not (is_worker caller)
has_caller larvals references (Get caller id ok) = not (is_worker caller)
has_caller larvals references (Put caller id) = not (is_worker caller) && list_any (is_of caller id) references
has_caller larvals references (Refs caller driver) = not (is_worker caller)
has_caller larvals references (reg.List caller) = not (is_worker caller)
has_caller larvals references _ = true

abbrev pub end_numbered : List Row → EndAnswer → Bool
end_numbered table (Built id spec) = id == length table
end_numbered table (Joined id below) = listed_at table id
end_numbered table (Failed errno) = true
end_numbered table NoMemory = true

abbrev pub has_number : List Row → List Larval → RegEntry → Bool
has_number table larvals (Enlist caller spec answer) = same_made answer (enlisted_by table spec)
has_number table larvals (Look caller text plain answer) = same_found answer (look_answer table larvals text plain)
has_number table larvals (End caller larval answer) = end_numbered table answer
has_number table larvals (Unlist caller driver answer) = same_place answer (driver_place table driver)
has_number table larvals _ = true

abbrev pub end_answered : List Row → EndAnswer → Bool
end_answered table (Built id spec) = builds_by table spec
end_answered table (Joined id below) = list_all (listed_at table) below
end_answered table (Failed errno) = true
end_answered table NoMemory = true

abbrev pub has_answer : List Row → List Larval → RegEntry → Bool
has_answer table larvals (Enlist caller spec answer) = alike_made answer (enlisted_by table spec)
has_answer table larvals (Look caller text plain answer) = alike_found answer (look_answer table larvals text plain)
has_answer table larvals (End caller larval answer) = end_answered table answer
has_answer table larvals (Unlist caller driver answer) = alike_place answer (driver_place table driver)
has_answer table larvals (Get caller id ok) = same_flag ok (listed_at table id)
has_answer table larvals _ = true

-- the first reason against an event, where there is one
abbrev pub judged : List Row → List Larval → List Reference → RegEntry → Option Reason
judged table larvals references e =
    reason_of (has_state larvals references e) (has_caller larvals references e) (has_number table larvals e) (has_answer table larvals e)

-- one element is changed, where it is there
abbrev pub change_at : {X : Type 0} → (X → X) → List X → ℕ → List X
change_at f [] p = []
change_at f (x ∷ xs) zero = f x ∷ xs
change_at f (x ∷ xs) (suc p) = x ∷ change_at f xs p

-- the entries after a right event, all marked again where one was added or unlisted
abbrev pub table_after : List Row → RegEntry → List Row
table_after table (Enlist caller spec (Made id)) = marked [] (table ++ new_row spec ∷ [])
table_after table (End caller larval (Built id spec)) = marked [] (table ++ new_row spec ∷ [])
table_after table (Unlist caller driver (Some id)) = marked [] (change_at unlisted_row table id)
table_after table (Get caller id true) = change_at taken_row table id
table_after table (Put caller id) = change_at put_row_of table id
table_after table _ = table

abbrev pub new_larval : List ℕ → Larval
new_larval text = record { text = text; claimed = None; ended = None }

abbrev pub larvals_after : List Larval → RegEntry → List Larval
larvals_after larvals (Look caller text plain (Began number)) = larvals ++ new_larval text ∷ []
larvals_after larvals (Claim caller larval) = change_at (claimed_larval caller) larvals larval
larvals_after larvals (End caller larval answer) = change_at (ended_larval (end_of answer)) larvals larval
larvals_after larvals _ = larvals

-- without the first that passes the test
abbrev pub without_first : {X : Type 0} → (X → Bool) → List X → List X
without_first p [] = []
without_first p (x ∷ xs) = if p x then xs else x ∷ without_first p xs

abbrev pub references_after : List Reference → RegEntry → List Reference
references_after references (Get caller id true) = references ++ record { caller = caller; id = id } ∷ []
references_after references (Put caller id) = without_first (is_of caller id) references
references_after references _ = references

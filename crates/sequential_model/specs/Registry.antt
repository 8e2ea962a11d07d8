-- The registry of a script that is alone: no one builds beside it, so a name that isn't found is built at once.
use Rattle.std.specs.Prelude.{ℕ, zero, suc, Bool, true, false, if◌then◌else◌, List, [], ◌∷◌, ◌++◌, map, set, slice_get, Option, Some, None, Result, Ok, Err}
use Rattle.std.specs.List.{filter_map, position_from}
use Rattle.std.specs.Option.{option_map, option_or}
use Rattle.std.specs.Str.{bytes_eq}
use Rattle.kc_base.specs.declared.error_numbers.Errno.{Errno}
use Rattle.kc_base.specs.declared.error_numbers.Errno.TheVariants.{ENOENT}
use Rattle.alg_registry.specs.declared.spec.Spec.{Spec}
use Rattle.alg_registry.specs.declared.row.Row.{Row}
use Rattle.alg_registry.specs.declared.entry.EndAnswer.{EndAnswer}
use Rattle.alg_registry.specs.declared.entry.EndAnswer.TheVariants.{Built, Joined, Failed, NoMemory}
use Rattle.alg_registry.specs.declared.entry.Enlisted.TheVariants.{Made}
use Rattle.alg_registry.specs.Rows.{opening, standing, listed_at}
use Rattle.alg_registry.specs.Calls.{new_row, unlisted_row, taken_row, put_row_of, refs_answer, listing}
use Rattle.alg_registry.specs.Answers.{built_answer, is_template, enlist_answer, driver_place}
use Rattle.alg_registry.specs.Held.{is_plain_driver}
use Rattle.alg_registry.specs.Larvals.{best_by}
use Rattle.alg_registry.specs.Made.{Templates, with_spec}
use Rattle.templates.specs.LookResults.{Found, Entry, Fault}
use Rattle.templates.specs.Resolution.{weight_of}
use Rattle.templates.specs.Table.{table}
use Rattle.dialogues.specs.Questions.{RegQuestion, RegAnswer, Enlist, Look, Unlist, Get, Put, Count, ListAll}
use Rattle.dialogues.specs.RegistryCalls.{RegCall, Enlists, Looks, Unlists, Gets, Puts}

-- every entry that ever was, by id; and the texts for which entries were built or joined, each with the entry's id
pub record PlainRegistry : Type 0 where
  pub rows : List Row
  pub built : List (List ℕ × ℕ)

-- the entries that stand from the start
abbrev pub first_registry : PlainRegistry
first_registry = record { rows = standing (map new_row opening); built = [] }

-- ---- what is found

abbrev pub if_for : List ℕ → List ℕ × ℕ → Option ℕ
if_for text pair = if bytes_eq pair.0 text then Some pair.1 else None

-- the ids of the entries that were built or joined for the text
abbrev pub ids_for : List ℕ → List (List ℕ × ℕ) → List ℕ
ids_for text built = filter_map (if_for text) built

-- the entry whose driver the text is; or else the best of those whose name it is, or that were built or joined for it
abbrev pub found : PlainRegistry → List ℕ → Bool → Option ℕ
found registry text plain =
    option_or (position_from (is_plain_driver text plain) 0 registry.rows)
    (option_map (λ best. best.0) (best_by (ids_for text registry.built) text plain 0 registry.rows))

-- ---- what is built

-- the registry afterwards, and the entry that a look came to, or the number of a failure
abbrev pub LookedUp : Type 0
LookedUp = PlainRegistry × Result ℕ Errno

-- the entry for the text is there, new or as it was; or there is none
abbrev pub ended : List ℕ → PlainRegistry → EndAnswer → LookedUp
ended text registry (Built id spec) =
    (record { rows = standing (registry.rows ++ new_row spec ∷ []); built = (text, id) ∷ registry.built }, Ok id)
ended text registry (Joined id below) = (record registry { built = (text, id) ∷ registry.built }, Ok id)
ended text registry (Failed errno) = (registry, Err errno)
ended text registry NoMemory = (registry, Err ENOENT)

abbrev pub end_by : PlainRegistry → Result Spec Errno → EndAnswer
end_by registry (Ok spec) = built_answer registry.rows spec
end_by registry (Err errno) = Failed errno

-- the entry itself, over its children
abbrev pub itself : Templates → List ℕ → List ℕ → PlainRegistry → LookedUp
itself t text ids registry =
    ended text registry (end_by registry (t.derived text (filter_map (with_spec (map (λ row. row.spec) registry.rows)) ids)))

abbrev pub and_then : LookedUp → (ℕ → PlainRegistry → LookedUp) → LookedUp
and_then came later = elim came.1 [ Ok id ↦ later id came.0 | Err errno ↦ (came.0, Err errno) ]

-- its children one after the other, each looked up, and then itself
abbrev pub with_children : Templates → (PlainRegistry → List ℕ → LookedUp) → List ℕ → List (List ℕ) → List ℕ → PlainRegistry → LookedUp
with_children t look text [] ids registry = itself t text ids registry
with_children t look text (child ∷ children) ids registry =
    and_then (look registry child) (λ id now. with_children t look text children (ids ++ id ∷ []) now)

abbrev pub built_by : Templates → (PlainRegistry → List ℕ → LookedUp) → List ℕ → PlainRegistry → Result (List (List ℕ)) Errno → LookedUp
built_by t look text registry (Ok children) = with_children t look text children [] registry
built_by t look text registry (Err errno) = (registry, Err errno)

abbrev pub or_built : Templates → (PlainRegistry → List ℕ → LookedUp) → List ℕ → PlainRegistry → Option ℕ → LookedUp
or_built t look text registry (Some id) = (registry, Ok id)
or_built t look text registry None = if is_template text then built_by t look text registry (t.children text) else (registry, Err ENOENT)

-- A name that isn't found is built at once. So many levels of names ask for one another at most.
abbrev pub looked : Templates → ℕ → Bool → PlainRegistry → List ℕ → LookedUp
looked t zero plain registry text = (registry, Err ENOENT)
looked t (suc levels) plain registry text = or_built t (λ now child. looked t levels true now child) text registry (found registry text plain)

-- a name that a script looks up: each asks for lighter ones
abbrev pub look_up : PlainRegistry → List ℕ → LookedUp
look_up registry text = looked table (suc (weight_of text)) false registry text

-- ---- what a script is answered

abbrev pub found_at : ℕ → Option Row → Found
found_at id (Some row) = Entry id row.spec
found_at id None = Fault ENOENT

abbrev pub found_of : List Row → Result ℕ Errno → Found
found_of rows (Ok id) = found_at id (slice_get rows id)
found_of rows (Err errno) = Fault errno

-- what a look comes to
abbrev pub look_found : LookedUp → Found
look_found came = found_of came.0.rows came.1

abbrev pub answer_in : PlainRegistry → (question : RegQuestion) → RegAnswer question
answer_in registry (Enlist spec) = enlist_answer registry.rows spec
answer_in registry (Look text) = look_found (look_up registry text)
answer_in registry (Unlist driver) = driver_place registry.rows driver
answer_in registry (Get id) = listed_at registry.rows id
answer_in registry (Put id) = tt
answer_in registry (Count driver) = refs_answer registry.rows driver
answer_in registry ListAll = listing registry.rows

-- ---- what a call leaves

abbrev pub with_rows : PlainRegistry → List Row → PlainRegistry
with_rows registry rows = record registry { rows = standing rows }

abbrev pub changed_by : (Row → Row) → ℕ → List Row → Option Row → List Row
changed_by change id rows (Some row) = set rows id (change row)
changed_by change id rows None = rows

-- what was done to the entry of the id
abbrev pub changed : PlainRegistry → (Row → Row) → ℕ → PlainRegistry
changed registry change id = with_rows registry (changed_by change id registry.rows (slice_get registry.rows id))

-- the registry after a call
abbrev pub registry_after : PlainRegistry → RegCall → PlainRegistry
registry_after registry (Enlists spec (Made id)) = with_rows registry (registry.rows ++ new_row spec ∷ [])
registry_after registry (Looks text found) = (look_up registry text).0
registry_after registry (Unlists driver (Some id)) = changed registry unlisted_row id
registry_after registry (Gets id true) = changed registry taken_row id
registry_after registry (Puts id) = changed registry put_row_of id
registry_after registry _ = registry

-- The table of entries, and which of them calls have to see.
use Rattle.std.specs.Prelude.{ℕ, ◌+◌, ◌≡◌, ◌≤◌, Bool, false, ◌&&◌, if◌then◌else◌, List, [], ◌∷◌, length, slice_get, Option, None}
use Rattle.std.specs.Option.{option_map_or, option_and_then, option_or}
use Rattle.std.specs.Str.{bytes_eq}
use Rattle.alg_registry.specs.declared.entry.RefAnswer.{RefAnswer}
use Rattle.alg_registry.specs.declared.row.Row.{Row}
use Rattle.alg_registry.specs.Rows.{is_held, standing}
use Rattle.alg_registry.specs.Answers.{may_find, better}
use Rattle.alg_registry.specs.Calls.{own_refs}
use Rattle.alg_registry.specs.Larvals.{answers_by}

-- the entries by id, and for how many more there is room
pub record RowTable : Type 0 where
  pub list : List Row
  pub spare : ℕ

-- the ids of these entries that pass the test, where the first has this id
abbrev pub ids_of : (Row → Bool) → ℕ → List Row → List ℕ
ids_of test id [] = []
ids_of test id (row ∷ rows) = if test row then id ∷ ids_of test (id + 1) rows else ids_of test (id + 1) rows

abbrev pub held_from : ℕ → List Row → List ℕ
held_from id rows = ids_of is_held id rows

abbrev pub is_row_listed : Row → Bool
is_row_listed row = row.listed

abbrev pub listed_from : ℕ → List Row → List ℕ
listed_from id rows = ids_of is_row_listed id rows

-- What a table keeps: its entries stand as they should, the held ids are all that are held, the listed ids all that are
-- listed, and there is room for more.
pub record IsRowTable (all : List Row) (held listed : List ℕ) (spare room held_room listed_room : ℕ) : Type 0 where
  pub stands : standing all ≡ all
  pub held_are : held ≡ held_from 0 all
  pub listed_are : listed ≡ listed_from 0 all
  pub fits : length all + spare ≤ room
  pub held_fits : length held + spare ≤ held_room
  pub listed_fits : length listed + spare ≤ listed_room

-- the entry of the id passes the test
abbrev pub passes : (Row → Bool) → List Row → ℕ → Bool
passes test rows id = option_map_or test (slice_get rows id) false

-- what the entries of the ids decide, one after the other from the last
abbrev pub decided : {B : Type 0} → (ℕ → Row → B → B) → B → List Row → List ℕ → B
decided decide start rows [] = start
decided decide start rows (id ∷ ids) = option_map_or (λ row. decide id row (decided decide start rows ids)) (slice_get rows id) (decided decide start rows ids)

abbrev pub better_by : List ℕ → List ℕ → Bool → ℕ → Row → Option (ℕ × ℕ) → Option (ℕ × ℕ)
better_by joined text plain id row best = if answers_by joined text plain id row then better id row best else best

-- the best entry of these ids that answers to the text
abbrev pub best_among : List ℕ → List ℕ → Bool → List Row → List ℕ → Option (ℕ × ℕ)
best_among joined text plain rows ids = decided (better_by joined text plain) None rows ids

abbrev pub refs_by : List ℕ → ℕ → Row → Option RefAnswer → Option RefAnswer
refs_by driver id row found = option_or found (own_refs driver row)

-- the references of the newest entry of these ids that has the driver
abbrev pub refs_among : List ℕ → List Row → List ℕ → Option RefAnswer
refs_among driver rows ids = decided (refs_by driver) None rows ids

-- what is made of the entry of the id
abbrev pub made_at : {B : Type 0} → (Row → Option B) → List Row → ℕ → Option B
made_at make rows id = option_and_then make (slice_get rows id)

-- the entry may be found, and has the driver
abbrev pub is_plain_driver : List ℕ → Bool → Row → Bool
is_plain_driver text plain row = may_find plain row && bytes_eq row.spec.driver text

-- the entry is listed, and has the driver
abbrev pub is_listed_driver : List ℕ → Row → Bool
is_listed_driver driver row = row.listed && bytes_eq row.spec.driver driver

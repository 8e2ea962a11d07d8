-- What each call answers, as a function of the entries and the larvals.
use Rattle.std.specs.Prelude.{ℕ, ◌+◌, Bool, true, false, not, ◌&&◌, ◌||◌, ◌==◌, nat_lt, nat_le, if◌then◌else◌, List, [], ◌∷◌, length, Option, Some, None, is_none, count_by}
use Rattle.std.specs.List.{list_any, list_all, position_from}
use Rattle.std.specs.Str.{bytes_eq}
use Rattle.kc_base.specs.declared.error_numbers.Errno.TheVariants.{EAGAIN, EEXIST, ENFILE}
use Rattle.alg_registry.specs.declared.spec.Wrap.{Wrap}
use Rattle.alg_registry.specs.declared.spec.Wrap.TheVariants.{Plain, Pcrypt, Cryptd}
use Rattle.alg_registry.specs.declared.spec.Spec.{Spec}
use Rattle.alg_registry.specs.declared.entry.Looked.{Looked}
use Rattle.alg_registry.specs.declared.entry.Looked.TheVariants.{Found, Pending, Began, Absent}
use Rattle.alg_registry.specs.declared.entry.Ended.{Ended}
use Rattle.alg_registry.specs.declared.entry.Ended.TheVariants as ended
use Rattle.alg_registry.specs.declared.entry.Enlisted.{Enlisted}
use Rattle.alg_registry.specs.declared.entry.Enlisted.TheVariants as enlisted
use Rattle.alg_registry.specs.declared.entry.EndAnswer.{EndAnswer}
use Rattle.alg_registry.specs.declared.entry.EndAnswer.TheVariants.{Built, Joined, Failed}
use Rattle.alg_registry.specs.declared.row.Row.{Row}
use Rattle.alg_registry.specs.declared.row.Larval.{Larval}
use Rattle.alg_registry.specs.Rows.{listed_at, is_held}

abbrev pub is_plain : Wrap → Bool
is_plain Plain = true
is_plain Pcrypt = false
is_plain Cryptd = false

-- an entry that the look may find: it is listed, and plain where only such count
abbrev pub may_find : Bool → Row → Bool
may_find plain row = row.listed && (not plain || is_plain row.spec.wrap)

abbrev pub is_end_at : ℕ → Option Ended → Bool
is_end_at id (Some (ended.Built built)) = built == id
is_end_at id (Some (ended.Joined joined)) = joined == id
is_end_at id _ = false

-- a larval of the text ended with the entry
abbrev pub ended_with : List ℕ → ℕ → Larval → Bool
ended_with text id larval = bytes_eq larval.text text && is_end_at id larval.ended

-- the entry answers to the text, by its name or by a larval that ended with it
abbrev pub answers_to : List Larval → List ℕ → Bool → ℕ → Row → Bool
answers_to larvals text plain id row = may_find plain row && (bytes_eq row.spec.name text || list_any (ended_with text id) larvals)

-- of an entry and the best of the newer ones the better: a newer one wins a tie
abbrev pub better : ℕ → Row → Option (ℕ × ℕ) → Option (ℕ × ℕ)
better id row None = Some (id, row.spec.priority)
better id row (Some best) = if nat_lt best.1 row.spec.priority then Some (id, row.spec.priority) else Some best

-- the entry of greatest priority that answers to the text, with the priority; of equal priorities the newest
abbrev pub best_from : List Larval → List ℕ → Bool → ℕ → List Row → Option (ℕ × ℕ)
best_from larvals text plain id [] = None
best_from larvals text plain id (row ∷ newer) = if answers_to larvals text plain id row then better id row (best_from larvals text plain (id + 1) newer) else best_from larvals text plain (id + 1) newer

abbrev pub is_pending : List ℕ → Larval → Bool
is_pending text larval = is_none larval.ended && bytes_eq larval.text text

-- a template has a parenthesis
abbrev pub is_template : List ℕ → Bool
is_template text = list_any (λ byte. byte == 40) text

-- nothing is found: a larval is pending, or begins, or there is none
abbrev pub not_found : List Larval → List ℕ → Option ℕ → Looked
not_found larvals text (Some larval) = Pending larval
not_found larvals text None = if is_template text then Began (length larvals) else Absent

abbrev pub found_best : List Larval → List ℕ → Option (ℕ × ℕ) → Looked
found_best larvals text (Some best) = Found best.0
found_best larvals text None = not_found larvals text (position_from (is_pending text) 0 larvals)

abbrev pub found_driver : List Row → List Larval → List ℕ → Bool → Option ℕ → Looked
found_driver rows larvals text plain (Some id) = Found id
found_driver rows larvals text plain None = found_best larvals text (best_from larvals text plain 0 rows)

-- the answer of a look: a driver of the text; or the best entry that answers to it; or a larval of it
abbrev pub look_answer : List Row → List Larval → List ℕ → Bool → Looked
look_answer rows larvals text plain = found_driver rows larvals text plain (position_from (λ row. may_find plain row && bytes_eq row.spec.driver text) 0 rows)

-- the new algorithm would be confused with the entry
abbrev pub clashes_with : Spec → Row → Bool
clashes_with spec row = row.listed && (bytes_eq row.spec.name spec.driver || bytes_eq row.spec.driver spec.driver || bytes_eq row.spec.driver spec.name)

abbrev pub held_count : List Row → ℕ
held_count rows = count_by is_held rows

abbrev pub enlist_answer : List Row → Spec → Enlisted
enlist_answer rows spec = if list_any (clashes_with spec) rows then enlisted.Exist else (if nat_le 4096 (held_count rows) then enlisted.NFile else enlisted.Made (length rows))

-- the listed entry of the driver
abbrev pub driver_place : List Row → List ℕ → Option ℕ
driver_place rows driver = position_from (λ row. row.listed && bytes_eq row.spec.driver driver) 0 rows

abbrev pub joined_or_built : List Row → Spec → Option ℕ → EndAnswer
joined_or_built rows spec (Some id) = Joined id spec.below
joined_or_built rows spec None = if list_any (clashes_with spec) rows then Failed EEXIST else (if nat_le 4096 (held_count rows) then Failed ENFILE else Built (length rows) spec)

-- the answer where an instance was built
abbrev pub built_answer : List Row → Spec → EndAnswer
built_answer rows spec = if list_all (listed_at rows) spec.below then joined_or_built rows spec (driver_place rows spec.driver) else Failed EAGAIN

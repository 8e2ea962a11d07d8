-- Which histories come of building each instance by its template, children first. The table of templates is a parameter
-- here.
use Rattle.std.specs.Prelude.{ℕ, ◌≡◌, Bool, true, false, not, ◌==◌, if◌then◌else◌, List, [], ◌∷◌, ◌++◌, length, slice_get, Option, Some, None, Result, Ok, Err, IsTrue, ⊤, filter}
use Rattle.std.specs.List.{filter_map, fold, cons_option}
use Rattle.std.specs.Option.{option_and_then}
use Rattle.kc_base.specs.declared.error_numbers.Errno.{Errno}
use Rattle.kc_base.specs.declared.error_numbers.Errno.TheVariants.{ENOENT}
use Rattle.alg_registry.specs.declared.spec.Spec.{Spec}
use Rattle.alg_registry.specs.declared.entry.Looked.{Looked}
use Rattle.alg_registry.specs.declared.entry.Looked.TheVariants.{Found, Pending, Began, Absent}
use Rattle.alg_registry.specs.declared.entry.Ended.{Ended}
use Rattle.alg_registry.specs.declared.entry.Ended.TheVariants as ended
use Rattle.alg_registry.specs.declared.entry.EndAnswer.{EndAnswer}
use Rattle.alg_registry.specs.declared.entry.EndAnswer.TheVariants.{Failed, NoMemory}
use Rattle.alg_registry.specs.declared.entry.RegEntry.{RegEntry}
use Rattle.alg_registry.specs.declared.entry.RegEntry.TheVariants.{Enlist, Look, Claim, End}
use Rattle.alg_registry.specs.Rows.{registered, rows_of, begun_by}
use Rattle.alg_registry.specs.Answers.{built_answer}
use Rattle.alg_registry.specs.Legal.{ended_as}

-- what the templates say
pub record Templates : Type 0 where
  pub is_name : List ℕ → Bool
  pub is_driver : Spec → Bool
  pub children : List ℕ → Result (List (List ℕ)) Errno
  pub derived : List ℕ → List (ℕ × Spec) → Result Spec Errno

-- the larvals that the caller is building, after one more entry
abbrev pub building_after : ℕ → List ℕ → RegEntry → List ℕ
building_after caller larvals (Claim by larval) = if by == caller then larvals ++ larval ∷ [] else larvals
building_after caller larvals (End by larval answer) = if by == caller then filter (λ m. not (m == larval)) larvals else larvals
building_after caller larvals _ = larvals

-- the larvals that the caller claimed and hasn't ended, the last claimed last
abbrev pub building : List RegEntry → ℕ → List ℕ
building h caller = fold (building_after caller) [] h

abbrev pub last_of : List ℕ → Option ℕ
last_of [] = None
last_of (x ∷ []) = Some x
last_of (x ∷ y ∷ xs) = last_of (y ∷ xs)

-- the larval for which the caller looks, and what was answered
abbrev pub look_for : List RegEntry → RegEntry → Option (ℕ × Looked)
look_for before (Look caller text true answer) = option_and_then (λ larval. Some (larval, answer)) (last_of (building before caller))
look_for before _ = None

abbrev pub if_of : ℕ → Option (ℕ × Looked) → Option Looked
if_of larval None = None
if_of larval (Some found) = if found.0 == larval then Some found.1 else None

-- the answers of the looks for a larval, in order
abbrev pub looks_for : ℕ → List RegEntry → List RegEntry → List Looked
looks_for larval before [] = []
looks_for larval before (next ∷ later) = cons_option (if_of larval (look_for before next)) (looks_for larval (before ++ next ∷ []) later)

abbrev pub outcome_of : Option Ended → Option (Result ℕ Errno)
outcome_of (Some (ended.Built id)) = Some (Ok id)
outcome_of (Some (ended.Joined id)) = Some (Ok id)
outcome_of (Some (ended.Failed errno)) = Some (Err errno)
outcome_of (Some ended.NoMemory) = None
outcome_of None = None

-- what a look comes to, once its larval has ended
abbrev pub outcome : List RegEntry → Looked → Option (Result ℕ Errno)
outcome h (Found id) = Some (Ok id)
outcome h Absent = Some (Err ENOENT)
outcome h (Pending larval) = outcome_of (ended_as h larval)
outcome h (Began larval) = outcome_of (ended_as h larval)

abbrev pub all_outcomes : Option (Result ℕ Errno) → Option (Result (List ℕ) Errno) → Option (Result (List ℕ) Errno)
all_outcomes None rest = None
all_outcomes (Some (Err errno)) rest = Some (Err errno)
all_outcomes (Some (Ok id)) None = None
all_outcomes (Some (Ok id)) (Some (Err errno)) = Some (Err errno)
all_outcomes (Some (Ok id)) (Some (Ok ids)) = Some (Ok (id ∷ ids))

-- the entries that the looks came to, or the first failure
abbrev pub outcomes : List RegEntry → List Looked → Option (Result (List ℕ) Errno)
outcomes h [] = Some (Ok [])
outcomes h (look ∷ looks) = all_outcomes (outcome h look) (outcomes h looks)

abbrev pub with_spec : List Spec → ℕ → Option (ℕ × Spec)
with_spec specs id = option_and_then (λ spec. Some (id, spec)) (slice_get specs id)

abbrev pub by_spec : List RegEntry → Result Spec Errno → EndAnswer
by_spec h (Ok spec) = built_answer (rows_of h) spec
by_spec h (Err errno) = Failed errno

abbrev pub by_outcomes : Templates → List RegEntry → List ℕ → List (List ℕ) → Option (Result (List ℕ) Errno) → Option EndAnswer
by_outcomes t h text children None = None
by_outcomes t h text children (Some (Err errno)) = Some (Failed errno)
by_outcomes t h text children (Some (Ok ids)) = if length ids == length children then Some (by_spec h (t.derived text (filter_map (with_spec (registered h)) ids))) else None

abbrev pub by_children : Templates → List RegEntry → List ℕ → List Looked → Result (List (List ℕ)) Errno → Option EndAnswer
by_children t h text looks (Err errno) = Some (Failed errno)
by_children t h text looks (Ok children) = by_outcomes t h text children (outcomes h looks)

-- how a larval has to end, by its template
abbrev pub made_answer : Templates → List RegEntry → ℕ → Option EndAnswer
made_answer t h larval = option_and_then (λ text. by_children t h text (looks_for larval [] h) (t.children text)) (slice_get (filter_map begun_by h) larval)

abbrev pub next_of : List RegEntry → List Looked → Result (List (List ℕ)) Errno → Option (List ℕ)
next_of h looks (Err errno) = None
next_of h looks (Ok children) = next_where (outcomes h looks)
  where
    next_where : Option (Result (List ℕ) Errno) → Option (List ℕ)
    next_where (Some (Ok ids)) = slice_get children (length ids)
    next_where (Some (Err errno)) = None
    next_where None = None

-- the child for which the caller has to look next: those before it came to entries
abbrev pub next_child : Templates → List RegEntry → ℕ → Option (List ℕ)
next_child t h caller = option_and_then (λ larval. option_and_then (λ text. next_of h (looks_for larval [] h) (t.children text)) (slice_get (filter_map begun_by h) larval)) (last_of (building h caller))

-- the entry comes of building by the templates
abbrev pub IsMade : Templates → List RegEntry → RegEntry → Type 0
IsMade t h (Enlist caller spec answer) = IsTrue (t.is_driver spec)
IsMade t h (Look caller text false answer) = IsTrue (t.is_name text)
IsMade t h (Look caller text true answer) = IsTrue (t.is_name text) × (next_child t h caller ≡ Some text)
IsMade t h (End caller larval NoMemory) = ⊤
IsMade t h (End caller larval answer) = made_answer t h larval ≡ Some answer
IsMade t h _ = ⊤

abbrev pub MadeAfter : Templates → List RegEntry → List RegEntry → Type 0
MadeAfter t before [] = ⊤
MadeAfter t before (next ∷ later) = IsMade t before next × MadeAfter t (before ++ next ∷ []) later

abbrev pub Made : Templates → List RegEntry → Type 0
Made t h = MadeAfter t [] h

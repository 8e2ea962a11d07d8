-- What a builder knows while it builds for a larval.
use Rattle.std.specs.Prelude.{ℕ, ◌≡◌, ◌≢◌, Bool, true, false, List, [], length, slice_get, Some, Result, Ok, Err, IsFalse, ⊤, filter, not, ◌==◌}
use Rattle.std.specs.List.{list_all}
use Rattle.alg_registry.specs.declared.spec.Spec.{Spec}
use Rattle.alg_registry.specs.declared.entry.Ended.{Ended}
use Rattle.alg_registry.specs.declared.entry.Ended.TheVariants as ended
use Rattle.alg_registry.specs.declared.entry.EndAnswer.{EndAnswer}
use Rattle.alg_registry.specs.declared.entry.RegEntry.{RegEntry}
use Rattle.alg_registry.specs.declared.entry.RegEntry.TheVariants.{End}
use Rattle.alg_registry.specs.Rows.{texts}
use Rattle.alg_registry.specs.Legal.{is_worker}
use Rattle.alg_registry.specs.Made.{last_of, outcomes}
use Rattle.alg_names.specs.Name.{Tree, spelling}
use Rattle.templates.specs.declared.build_errors.BuildErr.{BuildErr}
use Rattle.templates.specs.declared.build_errors.BuildErr.TheVariants.{Fault, Memory}
use Rattle.templates.specs.Resolution.{result_of}
use Rattle.turn_lock.specs.Turns.{Known}
use Rattle.turn_lock.specs.PassLaws.{AtTurn, GoesOn, Enters}
use Rattle.alg_registry.specs.Rows.{caller_of}
use Rattle.shared_registry.specs.Faithful.{IsFaithful}
use Rattle.shared_registry.specs.Passes.{IsSound}
use Rattle.shared_registry.specs.Own.{open_of, own_looks, IsOwn, next_asked, handed}
use Rattle.shared_registry.specs.Builds.{is_building}

-- a look for the name may be made: for any, where the caller is no worker; for plain entries alone, where it is the
-- next child
abbrev pub MayResolve : Known RegEntry → List ℕ → Bool → Type 0
MayResolve k text false = IsFalse (is_worker k.number)
MayResolve k text true = next_asked k ≡ Some text

-- what a larval that ended so came to
abbrev pub ended_result : Ended → Result ℕ BuildErr
ended_result (ended.Built id) = Ok id
ended_result (ended.Joined id) = Ok id
ended_result (ended.Failed errno) = Err (Fault errno)
ended_result ended.NoMemory = Err Memory

-- what is handed in where this came of building
abbrev pub given_result : Result Spec BuildErr → Result Spec Ended
given_result (Ok spec) = Ok spec
given_result (Err (Fault errno)) = Err (ended.Failed errno)
given_result (Err Memory) = Err ended.NoMemory

-- a larval came to something
abbrev pub HasCome : Result ℕ BuildErr → Type 0
HasCome (Err Memory) = ⊥
HasCome _ = ⊤

-- the pass made no entry
pub record Idles (k l : Known RegEntry) : Type 0 where
  pub goes : GoesOn caller_of IsFaithful k l []
  pub sound : IsSound l

-- work for the children of the larval alone
pub record Within (larval : ℕ) (k l : Known RegEntry) : Type 0 where
  pub work : List RegEntry
  pub goes : GoesOn caller_of IsFaithful k l work
  pub all_work : list_all is_building work ≡ true
  pub builds : open_of l ≡ open_of k
  pub others : (n : ℕ) → IsOwn k n → n ≢ larval → own_looks l n ≡ own_looks k n

-- the looks for the larval came to these entries, one a child, or to this failure
abbrev pub ChildrenCome : Known RegEntry → ℕ → ℕ → Result (List ℕ) BuildErr → Type 0
ChildrenCome l larval count (Ok ids) = (outcomes l.seen (own_looks l larval) ≡ Some (Ok ids)) × (length ids ≡ count)
ChildrenCome l larval count (Err (Fault errno)) = outcomes l.seen (own_looks l larval) ≡ Some (Err errno)
ChildrenCome l larval count (Err Memory) = ⊤

-- what came of building is what the templates make of the larval
abbrev pub Builds : Known RegEntry → ℕ → Result Spec BuildErr → Type 0
Builds l larval (Ok spec) = handed l larval ≡ Some (Ok spec)
Builds l larval (Err (Fault errno)) = handed l larval ≡ Some (Err errno)
Builds l larval (Err Memory) = ⊤

-- the larval was ended, and the result is what it ended with
abbrev pub EndsAs : Known RegEntry → Known RegEntry → ℕ → Result ℕ BuildErr → Type 0
EndsAs k l larval r = AtTurn caller_of IsFaithful k (λ h. (answer : EndAnswer) × Enters IsFaithful k h (End k.number larval answer) l × (r ≡ result_of answer))

-- the larval that the caller had claimed last was built for and ended
pub record Closes (larval : ℕ) (k l : Known RegEntry) : Type 0 where
  pub work : List RegEntry
  pub goes : GoesOn caller_of IsFaithful k l work
  pub all_work : list_all is_building work ≡ true
  pub builds : open_of l ≡ filter (λ m. not (m == larval)) (open_of k)
  pub others : (n : ℕ) → IsOwn k n → n ≢ larval → own_looks l n ≡ own_looks k n

-- the caller claimed the larval of the text last, and looked for none of its children
pub record BeginsText (larval : ℕ) (text : List ℕ) (k : Known RegEntry) : Type 0 where
  pub sound : IsSound k
  pub begun : slice_get (texts k.seen) larval ≡ Some text
  pub last : last_of (open_of k) ≡ Some larval
  pub own : IsOwn k larval
  pub no_looks : own_looks k larval ≡ []

-- the same for a name
abbrev pub Begins : ℕ → Tree → Known RegEntry → Type 0
Begins larval name k = BeginsText larval (spelling name) k

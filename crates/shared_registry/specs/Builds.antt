-- What looking an instance up and building it does, beside what others do meanwhile.
use Rattle.std.specs.Prelude.{ℕ, ◌≡◌, ◌⊎◌, Bool, true, false, List, [], ◌∷◌, ◌++◌, slice_get, Some, None, Result, Ok, Err, IsSome, ⊤}
use Rattle.std.specs.List.{list_all, cons_option}
use Rattle.alg_registry.specs.declared.entry.Looked.{Looked}
use Rattle.alg_registry.specs.declared.entry.Looked.TheVariants.{Pending, Began}
use Rattle.alg_registry.specs.declared.entry.Ended.TheVariants.{NoMemory}
use Rattle.alg_registry.specs.declared.entry.RegEntry.{RegEntry}
use Rattle.alg_registry.specs.declared.entry.RegEntry.TheVariants.{Look, Claim, End, Waited}
use Rattle.alg_registry.specs.Rows.{larvals_of, texts}
use Rattle.alg_registry.specs.Calls.{claimed_number}
use Rattle.alg_registry.specs.Legal.{ended_as}
use Rattle.alg_registry.specs.Made.{look_for, if_of, outcome, outcome_of}
use Rattle.templates.specs.declared.build_errors.BuildErr.{BuildErr}
use Rattle.templates.specs.declared.build_errors.BuildErr.TheVariants as build
use Rattle.templates.specs.LookResults.{Found, Entry, Fault, found_in}
use Rattle.turn_lock.specs.Turns.{Known, Has, StartsWith}
use Rattle.turn_lock.specs.PassLaws.{AtTurn, GoesOn, Leaves}
use Rattle.alg_registry.specs.Rows.{caller_of}
use Rattle.shared_registry.specs.Faithful.{IsFaithful}
use Rattle.shared_registry.specs.Passes.{IsSound}
use Rattle.shared_registry.specs.Own.{open_of, own_looks, IsOwn}

-- an entry of building: no script asks for it
abbrev pub is_building : RegEntry → Bool
is_building (Look by text plain answer) = plain
is_building (Claim by larval) = true
is_building (End by larval answer) = true
is_building (Waited by larval) = true
is_building _ = false

-- the pass built and waited. What it was building it builds still, with the looks that it had made for it
pub record Works (k l : Known RegEntry) : Type 0 where
  pub work : List RegEntry
  pub goes : GoesOn caller_of IsFaithful k l work
  pub all_work : list_all is_building work ≡ true
  pub builds : open_of l ≡ open_of k
  pub looks : (n : ℕ) → IsOwn k n → own_looks l n ≡ own_looks k n

-- one look, and building and waiting for it
pub record Looks (k l : Known RegEntry) (text : List ℕ) (plain : Bool) (answer : Looked) : Type 0 where
  pub work : List RegEntry
  pub goes : GoesOn caller_of IsFaithful k l (Look k.number text plain answer ∷ work)
  pub all_work : list_all is_building work ≡ true
  pub builds : open_of l ≡ open_of k
  pub looks : (n : ℕ) → IsOwn k n → own_looks l n ≡ own_looks k n ++ cons_option (if_of n (look_for k.made (Look k.number text plain answer))) []
  pub sound : IsSound l

-- what the look came to in what the pass has seen
abbrev pub Comes : Known RegEntry → Looked → Result ℕ BuildErr → Type 0
Comes l answer (Ok id) = outcome l.seen answer ≡ Some (Ok id)
Comes l answer (Err (build.Fault errno)) = outcome l.seen answer ≡ Some (Err errno)
Comes l answer (Err build.Memory) = ⊤

-- a look was made and came to this, or memory ran out before it
abbrev pub Resolves : Known RegEntry → Known RegEntry → List ℕ → Bool → Result ℕ BuildErr → Type 0
Resolves k l text plain r = (Works k l × (r ≡ Err build.Memory)) ⊎ ((answer : Looked) × Looks k l text plain answer × Comes l answer r)

-- what the larval came to in what the pass has seen
abbrev pub Ends : Known RegEntry → ℕ → Result ℕ BuildErr → Type 0
Ends l larval (Ok id) = outcome_of (ended_as l.seen larval) ≡ Some (Ok id)
Ends l larval (Err (build.Fault errno)) = outcome_of (ended_as l.seen larval) ≡ Some (Err errno)
Ends l larval (Err build.Memory) = ⊤

-- one look, and building and waiting for it: what the look came to in what the pass has seen then. What the pass was
-- building it builds still, and nothing else: each larval that it claimed it ended
pub record LooksFor (k l : Known RegEntry) (text : List ℕ) (plain : Bool) (found : Found) : Type 0 where
  pub answer : Looked
  pub work : List RegEntry
  pub goes : GoesOn caller_of IsFaithful k l (Look k.number text plain answer ∷ work)
  pub all_work : list_all is_building work ≡ true
  pub builds : open_of l ≡ open_of k
  pub found_is : found_in l.seen answer ≡ Some found

abbrev pub Resolved : Known RegEntry → Known RegEntry → List ℕ → Bool → Result ℕ BuildErr → Type 0
Resolved k l text plain (Ok id) = (spec : _) × LooksFor k l text plain (Entry id spec)
Resolved k l text plain (Err (build.Fault errno)) = LooksFor k l text plain (Fault errno)
Resolved k l text plain (Err build.Memory) = Works k l ⊎ ((answer : Looked) × Looks k l text plain answer)

-- what a look came to
abbrev pub Settled : Known RegEntry → Looked → Result ℕ BuildErr → Type 0
Settled l looked (Ok id) = (spec : _) × (found_in l.seen looked ≡ Some (Entry id spec))
Settled l looked (Err (build.Fault errno)) = found_in l.seen looked ≡ Some (Fault errno)
Settled l looked (Err build.Memory) = ⊤

-- the caller looked for the text, and this was answered
abbrev pub IsLook : ℕ → List ℕ → Looked → RegEntry → Type 0
IsLook caller text looked (Look by other plain answer) = (by ≡ caller) × (other ≡ text) × (answer ≡ looked)
IsLook caller text looked _ = ⊥

abbrev pub WasAnswered : Known RegEntry → List ℕ → Looked → Type 0
WasAnswered k text looked = Has (IsLook k.number text looked) k.made

-- the larval that the answer names has the text
abbrev pub HasText : List RegEntry → List ℕ → Looked → Type 0
HasText h text (Pending larval) = slice_get (texts h) larval ≡ Some text
HasText h text (Began larval) = slice_get (texts h) larval ≡ Some text
HasText h text _ = ⊤

-- the oldest larval that nobody had claimed was claimed, and this holds of it
abbrev pub ClaimedOldest : Known RegEntry → Known RegEntry → (ℕ → Type 0) → Type 0
ClaimedOldest k l P = AtTurn caller_of IsFaithful k (λ h. (larval : ℕ) × (claimed_number (larvals_of h) None ≡ Some larval) × StartsWith l.seen (h ++ Claim k.number larval ∷ []) × P larval)

-- It came to something, or there was none. Where memory was refused, none was claimed, or it ended with that.
abbrev pub BuiltOne : {E : Type 0} → Known RegEntry → Known RegEntry → Result Bool E → Type 0
BuiltOne k l (Ok true) = ClaimedOldest k l (λ larval. IsSome (outcome_of (ended_as l.seen larval)))
BuiltOne k l (Ok false) = AtTurn caller_of IsFaithful k (λ h. (claimed_number (larvals_of h) None ≡ None) × Leaves k h l)
BuiltOne k l (Err e) = AtTurn caller_of IsFaithful k (λ h. Leaves k h l) ⊎ ClaimedOldest k l (λ larval. ended_as l.seen larval ≡ Some NoMemory)

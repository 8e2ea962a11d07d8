-- What stays as a history goes on, and what the calls of one caller tell alone, whoever calls between them.
use Rattle.std.specs.Prelude.{ℕ, ◌<◌, ◌≡◌, true, false, ◌==◌, List, [], ◌++◌, length, filter, slice_get, Some, None, Result, IsSome, IsTrue, ⊤}
use Rattle.std.specs.List.{list_any, AllByRecursion}
use Rattle.kc_base.specs.declared.error_numbers.Errno.{Errno}
use Rattle.alg_registry.specs.declared.spec.Spec.{Spec}
use Rattle.alg_registry.specs.declared.entry.Looked.{Looked}
use Rattle.alg_registry.specs.declared.entry.Ended.{Ended}
use Rattle.alg_registry.specs.declared.entry.RegEntry.{RegEntry}
use Rattle.alg_registry.specs.declared.entry.RegEntry.TheVariants.{Look}
use Rattle.alg_registry.specs.Rows.{caller_of, texts, registered}
use Rattle.alg_registry.specs.Legal.{LegalReg, claimer, ended_as, HasReference}
use Rattle.alg_registry.specs.Made.{Templates, Made, building, looks_for, outcome, outcome_of, outcomes}

-- the calls of one caller
abbrev pub calls_of : ℕ → List RegEntry → List RegEntry
calls_of caller h = filter (λ e. caller_of e == caller) h

-- a larval's text, its claim, its end, an entry, and what looks came to
pub record Stays (h more : List RegEntry) : Type 0 where
  pub text : (larval : ℕ) (text : List ℕ) → slice_get (texts h) larval ≡ Some text → slice_get (texts (h ++ more)) larval ≡ Some text
  pub claimed : (larval caller : ℕ) → claimer h larval ≡ Some caller → claimer (h ++ more) larval ≡ Some caller
  pub ended : (larval : ℕ) (e : Ended) → ended_as h larval ≡ Some e → ended_as (h ++ more) larval ≡ Some e
  pub entry : (id : ℕ) (spec : Spec) → slice_get (registered h) id ≡ Some spec → slice_get (registered (h ++ more)) id ≡ Some spec
  pub look : (answer : Looked) (r : Result ℕ Errno) → outcome h answer ≡ Some r → outcome (h ++ more) answer ≡ Some r
  pub looks : (answers : List Looked) (r : Result (List ℕ) Errno) → outcomes h answers ≡ Some r → outcomes (h ++ more) answers ≡ Some r

-- whoever goes on, these stay
abbrev pub AllStays : Type 0
AllStays = (h more : List RegEntry) → Stays h more

-- what a caller is building hangs on its own calls alone
abbrev pub BuildingIsOwn : Type 0
BuildingIsOwn = (h : List RegEntry) (caller : ℕ) → building h caller ≡ building (calls_of caller h) caller

-- it claimed that, and hasn't ended it
abbrev pub OpenIsClaimed : Type 0
OpenIsClaimed =
    (h : List RegEntry) → LegalReg h → (caller larval : ℕ) → IsTrue (list_any (λ m. m == larval) (building h caller))
    → (claimer h larval ≡ Some caller) × (ended_as h larval ≡ None)

-- the looks for a larval that it claimed are its own
abbrev pub LooksAreOwn : Type 0
LooksAreOwn = (h : List RegEntry) (caller larval : ℕ) → LegalReg h → claimer h larval ≡ Some caller → looks_for larval [] h ≡ looks_for larval [] (calls_of caller h)

-- and so are its references
abbrev pub ReferencesAreOwn : Type 0
ReferencesAreOwn = (h : List RegEntry) (caller id : ℕ) → HasReference (calls_of caller h) caller id → HasReference h caller id

-- a look for any entry has come to something in the history
abbrev pub HasCome : List RegEntry → RegEntry → Type 0
HasCome h (Look caller text true answer) = ⊤
HasCome h (Look caller text false answer) = IsSome (outcome h answer)
HasCome h _ = ⊤

-- where each look for any entry has come to something, each larval has ended, none for want of memory
abbrev pub AllHaveEnded : Type 0
AllHaveEnded =
    (t : Templates) (h : List RegEntry) → LegalReg h → Made t h → AllByRecursion (HasCome h) h
    → (n : ℕ) → n < length (texts h) → IsSome (outcome_of (ended_as h n))

-- the same where caller 0 alone is no worker, and its own looks have come to something
abbrev pub AllHaveEndedFor : Type 0
AllHaveEndedFor =
    (t : Templates) (h : List RegEntry) → LegalReg h → Made t h → AllByRecursion (λ e. caller_of e < 17) h → AllByRecursion (HasCome h) (calls_of 0 h)
    → (n : ℕ) → n < length (texts h) → IsSome (outcome_of (ended_as h n))

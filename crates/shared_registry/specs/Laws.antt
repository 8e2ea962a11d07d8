-- What holds of every history that a shared registry can have.
use Rattle.std.specs.Prelude.{ℕ, ◌<◌, ◌≡◌, ◌++◌, List, length, Some, IsSome}
use Rattle.alg_registry.specs.declared.entry.Looked.{Looked}
use Rattle.alg_registry.specs.declared.entry.RegEntry.{RegEntry}
use Rattle.alg_registry.specs.Rows.{caller_of, texts}
use Rattle.alg_registry.specs.Legal.{ended_as}
use Rattle.alg_registry.specs.Made.{outcome_of}
use Rattle.alg_registry.specs.OwnCalls.{HasCome}
use Rattle.templates.specs.LookResults.{Found, found_in}
use Rattle.turn_lock.specs.Turns.{Known, of, Each}
use Rattle.shared_registry.specs.Faithful.{IsFaithful}
use Rattle.shared_registry.specs.Builds.{Works}

-- what a look came to, it keeps
abbrev pub FoundStays : Type 0
FoundStays = (h more : List RegEntry) (answer : Looked) (found : Found) → found_in h answer ≡ Some found → found_in (h ++ more) answer ≡ Some found

-- where each look of caller 0 for any entry has come to something, and all other callers are workers, each larval has
-- ended, none for want of memory: nothing is left to build
abbrev pub NothingIsLeft : Type 0
NothingIsLeft =
    (h : List RegEntry) → IsFaithful h → Each (λ e. caller_of e < 17) h → Each (HasCome h) (of caller_of 0 h)
    → (n : ℕ) → n < length (texts h) → IsSome (outcome_of (ended_as h n))

-- a pass that does nothing builds nothing, and building and then building is building
abbrev pub WorksStill : Type 0
WorksStill = (k : Known RegEntry) → Works k k

abbrev pub WorksOn : Type 0
WorksOn = (k l m : Known RegEntry) → Works k l → Works l m → Works k m

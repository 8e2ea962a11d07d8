-- What a caller knows of the registry that it shares, and what its turn did.
use Rattle.std.specs.Prelude.{Bool, true, false, List, Option, Some, None, Result, Ok, Err}
use Rattle.alg_registry.specs.declared.entry.RegEntry.{RegEntry}
use Rattle.alg_registry.specs.declared.entry.RegErr.{RegErr}
use Rattle.alg_registry.specs.declared.entry.RegErr.TheVariants.{Memory}
use Rattle.alg_registry.specs.Rows.{caller_of}
use Rattle.turn_lock.specs.declared.lock.Pass.{Pass}
use Rattle.turn_lock.specs.Turns.{Known}
use Rattle.turn_lock.specs.Passes.{IsPassOf}
use Rattle.turn_lock.specs.PassLaws.{Enters, Leaves, IsOwn}
use Rattle.shared_registry.specs.declared.registry_lock.SharedRegistry.{SharedRegistry}
use Rattle.shared_registry.specs.Faithful.{IsFaithful}

-- the pass is one of the registry's
abbrev pub IsPassOn : SharedRegistry → Pass RegEntry → Type 0
IsPassOn registry pass = IsPassOf registry.lock pass

-- every answer but want of memory is recorded
abbrev pub recorded : {A : Type 0} → Result A RegErr → Bool
recorded (Err Memory) = false
recorded r = true

-- something was answered
abbrev pub given : {A : Type 0} → Result (Option A) RegErr → Bool
given (Ok (Some a)) = true
given r = false

-- the pass has added this entry to this history, where there is one, and has seen all of it
abbrev pub EntersIf : Known RegEntry → List RegEntry → Option RegEntry → Known RegEntry → Type 0
EntersIf k h (Some e) l = Enters IsFaithful k h e l
EntersIf k h None l = Leaves k h l

-- what the pass has seen is faithful, and has each entry that the pass made
pub record IsSound (k : Known RegEntry) : Type 0 where
  pub faithful : IsFaithful k.seen
  pub own : IsOwn caller_of k

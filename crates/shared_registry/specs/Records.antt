-- What a call does to the registry's history at its turn. k is what the pass knew before, l what it knows then, and h
-- the history that it meets.
use Rattle.std.specs.Prelude.{◌≡◌, List, Result, IfOk, IfErr}
use Rattle.alg_registry.specs.declared.entry.RegEntry.{RegEntry}
use Rattle.alg_registry.specs.declared.entry.RegErr.{RegErr}
use Rattle.alg_registry.specs.declared.entry.RegErr.TheVariants.{Memory}
use Rattle.alg_registry.specs.Calls.{UnlessMemory, OnMemory}
use Rattle.alg_registry.specs.Rows.{caller_of}
use Rattle.turn_lock.specs.Turns.{Known}
use Rattle.turn_lock.specs.PassLaws.{AtTurn, Enters, Leaves}
use Rattle.shared_registry.specs.Faithful.{IsFaithful}

-- this holds of the history that the pass meets
abbrev pub AtRegistry : Known RegEntry → (List RegEntry → Type 0) → Type 0
AtRegistry k P = AtTurn caller_of IsFaithful k P

-- the pass adds this entry to h
abbrev pub Adds : Known RegEntry → List RegEntry → RegEntry → Known RegEntry → Type 0
Adds k h e l = Enters IsFaithful k h e l

-- the call's result is this of h, and it records this entry, or memory was refused, and it records nothing
abbrev pub RecordsUnlessMemory : {A : Type 0} → Known RegEntry → Result A RegErr → (List RegEntry → Result A RegErr) → (List RegEntry → RegEntry) → Known RegEntry → Type 0
RecordsUnlessMemory k r result e l = AtRegistry k (λ h. UnlessMemory r ((r ≡ result h) × Adds k h (e h) l) × OnMemory r (Leaves k h l))

-- the call answers this of h, with which this holds, or memory was refused, and it records nothing
abbrev pub AnswersUnlessMemory : {A : Type 0} → Known RegEntry → Result A RegErr → (List RegEntry → A) → (List RegEntry → A → Type 0) → Known RegEntry → Type 0
AnswersUnlessMemory k r answer P l = AtRegistry k (λ h. IfOk r (λ a. (a ≡ answer h) × P h a) × IfErr r (λ e. (e ≡ Memory) × Leaves k h l))

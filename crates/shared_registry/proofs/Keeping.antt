-- A call of the registry leaves its history faithful.
use Rattle.std.proofs.Common.{◌≡◌, ℕ, Bool, List, [], ◌∷◌, ◌++◌, Option, Some, None, Result, Ok, Err, sym, ◌∙◌, subst, append_assoc}
use Rattle.std.specs.Prelude.{IfOk, OnOk, OnErr}
use Rattle.std.proofs.lemmas.List.{append-nil}
use Rattle.alg_registry.specs.declared.entry.Ended.{Ended}
use Rattle.alg_registry.specs.declared.entry.Looked.{Looked}
use Rattle.alg_registry.specs.declared.entry.Looked.TheVariants.{Absent}
use Rattle.alg_registry.specs.declared.entry.RegErr.{RegErr}
use Rattle.alg_registry.specs.declared.entry.RegErr.TheVariants.{Exist, NoEnt, Again, NFile, Memory}
use Rattle.alg_registry.specs.declared.entry.RegEntry.{RegEntry}
use Rattle.alg_registry.specs.declared.entry.RegEntry.TheVariants.{Look, Claim, Waited}
use Rattle.alg_registry.specs.Calls.{UnlessMemory, OnMemory, claim_entries, waited_entries}
use Rattle.alg_registry.specs.Legal.{LegalReg}
use Rattle.alg_registry.specs.Made.{Made, MadeAfter, IsMade}
use Rattle.templates.specs.Table.{table}
use Rattle.templates.proofs.Looks.{any_answer}
use Rattle.shared_registry.specs.Faithful.{IsFaithful}

made_after : (before h : List RegEntry) (e : RegEntry) → MadeAfter table before h → IsMade table (before ++ h) e → MadeAfter table before (h ++ e ∷ [])
made_after before [] e made next = (subst (λ (past : List RegEntry). IsMade table past e) (append-nil before) next, tt)
made_after before (x ∷ h) e made next = (made.0, made_after (before ++ x ∷ []) h e made.1 (subst (λ (past : List RegEntry). IsMade table past e) (sym (append_assoc before (x ∷ []) h)) next))

module _ (old new : List RegEntry) (legal : LegalReg new) (before : IsFaithful old) where
  pub with_entry : (e : RegEntry) → new ≡ old ++ e ∷ [] → IsMade table old e → IsFaithful new
  with_entry e grown next = record { legal = legal; made = subst (λ (h : List RegEntry). Made table h) (sym grown) (made_after [] old e before.made next) }

  pub as_before : new ≡ old → IsFaithful new
  as_before same = record { legal = legal; made = subst (λ (h : List RegEntry). Made table h) (sym same) before.made }

  pub unless_memory_entry : {X : Type 0} (r : Result X RegErr) (e : RegEntry) → UnlessMemory r (new ≡ old ++ e ∷ []) → OnMemory r (new ≡ old) → IsMade table old e → IsFaithful new
  unless_memory_entry (Ok x) e grown same next = with_entry e grown next
  unless_memory_entry (Err Memory) e grown same next = as_before same
  unless_memory_entry (Err Exist) e grown same next = with_entry e grown next
  unless_memory_entry (Err NoEnt) e grown same next = with_entry e grown next
  unless_memory_entry (Err Again) e grown same next = with_entry e grown next
  unless_memory_entry (Err NFile) e grown same next = with_entry e grown next

  pub ok_entry : {X F : Type 0} (r : Result X F) (e : RegEntry) → OnOk r (new ≡ old ++ e ∷ []) → OnErr r (new ≡ old) → IsMade table old e → IsFaithful new
  ok_entry (Ok x) e grown same next = with_entry e grown next
  ok_entry (Err x) e grown same next = as_before same

  pub look_entry : {F : Type 0} (r : Result Looked F) (caller : ℕ) (text : List ℕ) (plain : Bool) → IfOk r (λ a. new ≡ old ++ Look caller text plain a ∷ []) → OnErr r (new ≡ old) → IsMade table old (Look caller text plain Absent) → IsFaithful new
  look_entry (Ok a) caller text plain grown same next = with_entry (Look caller text plain a) grown (any_answer old caller text plain Absent a next)
  look_entry (Err x) caller text plain grown same next = as_before same

  claimed : (caller : ℕ) (o : Option ℕ) → new ≡ old ++ claim_entries caller o → IsFaithful new
  claimed caller None grown = as_before (grown ∙ append-nil old)
  claimed caller (Some m) grown = with_entry (Claim caller m) grown tt

  pub claim_entry : {X F : Type 0} (r : Result X F) (caller : ℕ) (o : Option ℕ) → OnOk r (new ≡ old ++ claim_entries caller o) → OnErr r (new ≡ old) → IsFaithful new
  claim_entry (Ok x) caller o grown same = claimed caller o grown
  claim_entry (Err x) caller o grown same = as_before same

  waited : (caller larval : ℕ) (o : Option Ended) → new ≡ old ++ waited_entries caller larval o → IsFaithful new
  waited caller larval None grown = as_before (grown ∙ append-nil old)
  waited caller larval (Some e) grown = with_entry (Waited caller larval) grown tt

  pub waited_entry : {X F : Type 0} (r : Result X F) (caller larval : ℕ) (o : Option Ended) → OnOk r (new ≡ old ++ waited_entries caller larval o) → OnErr r (new ≡ old) → IsFaithful new
  waited_entry (Ok x) caller larval o grown same = waited caller larval o grown
  waited_entry (Err x) caller larval o grown same = as_before same

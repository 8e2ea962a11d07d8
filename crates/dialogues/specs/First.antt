-- The first calls of a dialogue: what its script has called where it broke off.
use Rattle.std.specs.Prelude.{ℕ, ◌≡◌, List, [], ◌∷◌, ◌++◌, Some, None}
use Rattle.alg_registry.specs.declared.entry.RegEntry.{RegEntry}
use Rattle.templates.specs.LookResults.{Found}
use Rattle.dialogues.specs.BoardCalls.{BoardCall}
use Rattle.dialogues.specs.Dialogues.{Dialogue}
use Rattle.dialogues.specs.RegistryCalls.{RegCall, Looks, reg_calls}
use Rattle.dialogues.specs.Transcripts.{transcript_of}

-- the dialogue makes these calls first: its turn takes each of them
abbrev pub AreFirstCalls : Dialogue → List RegCall → List BoardCall → Type 0
AreFirstCalls dialogue r b = ((transcript_of dialogue r b).registry ≡ r) × ((transcript_of dialogue r b).board ≡ b)

-- what a call may come to: a look that has come to nothing to anything, and each other call to what it has come to
abbrev pub MayBe : RegCall → RegCall → Type 0
MayBe (Looks text None) call = (found : Found) × (call ≡ Looks text (Some found))
MayBe made call = call ≡ made

abbrev pub MayAllBe : List RegCall → List RegCall → Type 0
MayAllBe [] [] = Unit {0}
MayAllBe (made ∷ r) (call ∷ calls) = MayBe made call × MayAllBe r calls
MayAllBe r calls = ⊥

-- these are the dialogue's first calls, whatever its looks come to that have come to nothing
abbrev pub BeginsBy : Dialogue → List RegCall → List BoardCall → Type 0
BeginsBy dialogue r b = (calls : List RegCall) → MayAllBe r calls → AreFirstCalls dialogue calls b

-- The history went on, and these are the caller's further calls, of which looks may have come to nothing.
pub record AreFurther (caller : ℕ) (calls : List RegCall) (r r' : List RegEntry) : Type 0 where
  pub more : List RegEntry
  pub goes_on : r' ≡ r ++ more
  pub calls_are : reg_calls caller r' ≡ reg_calls caller r ++ calls

-- What a caller asks of the registry, and what it knows of it.
use Rattle.std.specs.Prelude.{◌≡◌, ◌⊎◌, ℕ, ◌<◌, Bool, true, false, List, [], ◌∷◌, slice_get, Option, Some, None, Result, Ok, Err, IsFalse, ⊤}
use Rattle.kc_base.specs.declared.error_numbers.Errno.{Errno}
use Rattle.alg_registry.specs.declared.entry.Enlisted.{Enlisted}
use Rattle.alg_registry.specs.declared.entry.Enlisted.TheVariants.{Made, Exist, NFile}
use Rattle.alg_registry.specs.declared.entry.RefAnswer.{RefAnswer}
use Rattle.alg_registry.specs.declared.entry.RegEntry.{RegEntry}
use Rattle.alg_registry.specs.declared.entry.RegErr.{RegErr}
use Rattle.alg_registry.specs.declared.entry.RegErr.TheVariants as err
use Rattle.alg_registry.specs.declared.listing.ListRow.{ListRow}
use Rattle.alg_registry.specs.declared.spec.Spec.{Spec}
use Rattle.alg_registry.specs.Legal.{is_worker}
use Rattle.alg_registry.specs.Rows.{registered, caller_of}
use Rattle.templates.specs.declared.build_errors.BuildErr.{BuildErr}
use Rattle.templates.specs.declared.build_errors.BuildErr.TheVariants as build
use Rattle.templates.specs.LookResults.{Found, Entry, Fault}
use Rattle.turn_lock.specs.PassLaws.{IsOwn}
use Rattle.turn_lock.specs.Turns.{Known, StartsWith}
use Rattle.dialogues.specs.First.{AreFurther}
use Rattle.dialogues.specs.GoingOn.{CallsInTurnAre, InTurnByAny, RegistryCallsGoOn, RegistryCallsJoin, RegistryUnasked}
use Rattle.dialogues.specs.InTurn.{AreInTurnBy, AreCalls}
use Rattle.dialogues.specs.RegistryCalls.{RegCall, Looks, reg_calls, AllSettled}
use Rattle.dialogues.specs.References.{got, given}
use Rattle.recorded_calls.specs.Passes.{RegPass, known, lock_of}

-- Calls in turn are the caller's further calls, and are so with any number of looks at once. Only what it asked adds to
-- its calls.
pub record CallLaws : Type 0 where
  pub are : CallsInTurnAre
  pub any : InTurnByAny
  pub goes_on : RegistryCallsGoOn
  pub joins : RegistryCallsJoin
  pub unasked : RegistryUnasked

-- The caller is no worker, has seen what it did, and what it looked for has come to something.
pub record IsCaller (k : Known RegEntry) : Type 0 where
  pub outsider : IsFalse (is_worker k.number)
  pub own : IsOwn caller_of k
  pub settled : AllSettled (reg_calls k.number k.seen)

-- it has a reference of the entry to give back
abbrev pub HasReferenceOf : Known RegEntry → ℕ → Type 0
HasReferenceOf k id = given id (reg_calls k.number k.seen) < got id (reg_calls k.number k.seen)

-- The caller has seen more, and made these calls in turn, with at most so many looks at once.
pub record AskedBy (width : ℕ) (k l : Known RegEntry) (calls : List RegCall) : Type 0 where
  pub number : l.number ≡ k.number
  pub next : l.next ≡ k.next
  pub in_turn : AreInTurnBy width k.number calls k.seen l.seen
  pub are : AreCalls k.number calls k.seen l.seen
  pub caller : IsCaller l

-- one after the other
abbrev pub Asked : Known RegEntry → Known RegEntry → List RegCall → Type 0
Asked k l calls = AskedBy 1 k l calls

-- so did the caller whose pass was this, on the same lock
pub record Asks (before after : Option RegPass) (calls : List RegCall) : Type 0 where
  pub lock : lock_of after ≡ lock_of before
  pub asked : Asked (known before) (known after) calls

-- it has seen more, on the same lock
pub record SeesMore (before after : Option RegPass) : Type 0 where
  pub lock : lock_of after ≡ lock_of before
  pub number : (known after).number ≡ (known before).number
  pub next : (known after).next ≡ (known before).next
  pub seen : StartsWith (known after).seen (known before).seen

-- It has seen more, on the same lock, and these are its further calls, of which looks may have come to nothing.
pub record SeesCalls (before after : Option RegPass) (calls : List RegCall) : Type 0 where
  pub more : SeesMore before after
  pub further : AreFurther (known before).number calls (known before).seen (known after).seen
  pub own : IsOwn caller_of (known after)

-- it looked for the text, or called nothing
abbrev pub SeesLook : Option RegPass → Option RegPass → List ℕ → Type 0
SeesLook before after text = SeesCalls before after [] ⊎ ((found : Option Found) × SeesCalls before after (Looks text found ∷ []))

-- ---- what is recorded of an answer; nothing of want of memory

abbrev pub enlisted_as : Result ℕ RegErr → Option Enlisted
enlisted_as (Ok id) = Some (Made id)
enlisted_as (Err err.Exist) = Some Exist
enlisted_as (Err err.NFile) = Some NFile
enlisted_as (Err _) = None

-- whether a driver was there to be unlisted
abbrev pub unlisted_as : Result (Unit {0}) RegErr → Option Bool
unlisted_as (Ok done) = Some true
unlisted_as (Err err.NoEnt) = Some false
unlisted_as (Err _) = None

-- whether an entry was still listed when a reference of it was taken
abbrev pub got_as : Result (Unit {0}) RegErr → Option Bool
got_as (Ok done) = Some true
got_as (Err err.Again) = Some false
got_as (Err _) = None

abbrev pub counted_as : Result RefAnswer RegErr → Option (Option RefAnswer)
counted_as (Ok answer) = Some (Some answer)
counted_as (Err err.NoEnt) = Some None
counted_as (Err _) = None

abbrev pub listed_as : Result (List ListRow) RegErr → Option (List ListRow)
listed_as (Ok rows) = Some rows
listed_as (Err _) = None

-- The caller looked for the text, which came to an entry, or to a number.
abbrev pub Finds : Option RegPass → Option RegPass → List ℕ → Result ℕ Errno → Type 0
Finds before after text (Ok id) = (spec : Spec) × Asks before after (Looks text (Some (Entry id spec)) ∷ []) × (slice_get (registered (known after).seen) id ≡ Some spec)
Finds before after text (Err errno) = Asks before after (Looks text (Some (Fault errno)) ∷ [])

-- the answer of a caller to what a resolution came to
abbrev pub IsResolved : {S : Type 0} → Result ℕ BuildErr → Result (Result ℕ Errno) S → Type 0
IsResolved (Ok id) (Ok (Ok n)) = id ≡ n
IsResolved (Err (build.Fault errno)) (Ok (Err number)) = errno ≡ number
IsResolved (Err build.Memory) (Err s) = ⊤
IsResolved r result = ⊥

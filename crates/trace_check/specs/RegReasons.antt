-- What a registry's event needs, in the same four parts.
use Rattle.std.specs.Prelude.{◌≡◌, ℕ, Bool, true, false, not, ◌||◌, List, take, length, slice_get, codes, Option, Some, None, is_some, IsTrue, IsFalse, IsSome, MatchOption, ⊤}
use Rattle.std.specs.List.{list_all}
use Rattle.alg_registry.specs.declared.entry.Looked.{Looked}
use Rattle.alg_registry.specs.declared.entry.Looked.TheVariants.{Found, Pending, Began, Absent}
use Rattle.alg_registry.specs.declared.entry.Enlisted.{Enlisted}
use Rattle.alg_registry.specs.declared.entry.Enlisted.TheVariants.{Made, Exist, NFile}
use Rattle.alg_registry.specs.declared.entry.EndAnswer.{EndAnswer}
use Rattle.alg_registry.specs.declared.entry.EndAnswer.TheVariants.{Built, Joined, Failed, NoMemory}
use Rattle.alg_registry.specs.declared.entry.RegEntry.{RegEntry}
use Rattle.alg_registry.specs.declared.entry.RegEntry.TheVariants.{Enlist, Look, Claim, End, Waited, Unlist, Get, Put, Refs}
use Rattle.alg_registry.specs.declared.entry.RegEntry.TheVariants as reg
use Rattle.alg_registry.specs.Rows.{rows_of, larvals_of, is_listed}
use Rattle.alg_registry.specs.Answers.{look_answer, enlist_answer, built_answer, driver_place}
use Rattle.alg_registry.specs.Legal.{is_worker, IsPending, claimer, ended_as, HasReference, LegalReg}
use Rattle.trace_check.specs.declared.reason.Reason.{Reason}
use Rattle.trace_check.specs.Reasons.{IsFirstMissing}

-- somebody has a reference of the entry to give back
abbrev pub IsReferenced : List RegEntry → ℕ → Type 0
IsReferenced h id = (caller : ℕ) × HasReference h caller id

-- the state that the event needs is there
abbrev pub HasState : List RegEntry → RegEntry → Type 0
HasState h (Claim caller larval) = IsPending h larval × (claimer h larval ≡ None)
HasState h (End caller larval answer) = IsSome (claimer h larval) × (ended_as h larval ≡ None)
HasState h (Waited caller larval) = IsSome (ended_as h larval)
HasState h (Put caller id) = IsReferenced h id
HasState h _ = ⊤

-- its caller is one who may make it
abbrev pub HasCaller : List RegEntry → RegEntry → Type 0
HasCaller h (Enlist caller spec answer) = IsFalse (is_worker caller)
HasCaller h (Look caller text plain answer) = IsTrue (plain || not (is_worker caller))
HasCaller h (Claim caller larval) = ⊤
HasCaller h (End caller larval answer) = claimer h larval ≡ Some caller
HasCaller h (Waited caller larval) = ⊤
HasCaller h (Unlist caller driver answer) = IsFalse (is_worker caller)
HasCaller h (Get caller id ok) = IsFalse (is_worker caller)
HasCaller h (Put caller id) = IsFalse (is_worker caller) × HasReference h caller id
HasCaller h (Refs caller driver) = IsFalse (is_worker caller)
HasCaller h (reg.List caller) = IsFalse (is_worker caller)

-- where the right answer is of the same kind, it has the same number
abbrev pub SameFound : Looked → Looked → Type 0
SameFound (Found id) (Found right) = id ≡ right
SameFound (Pending larval) (Pending right) = larval ≡ right
SameFound (Began larval) (Began right) = larval ≡ right
SameFound answer right = ⊤

abbrev pub SameMade : Enlisted → Enlisted → Type 0
SameMade (Made id) (Made right) = id ≡ right
SameMade answer right = ⊤

abbrev pub SameUnlisted : Option ℕ → Option ℕ → Type 0
SameUnlisted (Some id) (Some right) = id ≡ right
SameUnlisted answer right = ⊤

-- a new entry has the next id, and one that was there is listed
abbrev pub IsEndNumbered : List RegEntry → EndAnswer → Type 0
IsEndNumbered h (Built id spec) = id ≡ length (rows_of h)
IsEndNumbered h (Joined id below) = IsTrue (is_listed h id)
IsEndNumbered h (Failed errno) = ⊤
IsEndNumbered h NoMemory = ⊤

-- its numbers are the right ones
abbrev pub HasNumber : List RegEntry → RegEntry → Type 0
HasNumber h (Enlist caller spec answer) = SameMade answer (enlist_answer (rows_of h) spec)
HasNumber h (Look caller text plain answer) = SameFound answer (look_answer (rows_of h) (larvals_of h) text plain)
HasNumber h (End caller larval answer) = IsEndNumbered h answer
HasNumber h (Unlist caller driver answer) = SameUnlisted answer (driver_place (rows_of h) driver)
HasNumber h _ = ⊤

-- an answer but for its number
abbrev pub made_word : Enlisted → List ℕ
made_word (Made id) = codes "made"
made_word Exist = codes "EEXIST"
made_word NFile = codes "ENFILE"

abbrev pub found_word : Looked → List ℕ
found_word (Found id) = codes "found"
found_word (Pending larval) = codes "pending"
found_word (Began larval) = codes "began"
found_word Absent = codes "absent"

abbrev pub builds : EndAnswer → Bool
builds (Built id spec) = true
builds _ = false

abbrev pub IsEndAnswered : List RegEntry → EndAnswer → Type 0
IsEndAnswered h (Built id spec) = builds (built_answer (rows_of h) spec) ≡ true
IsEndAnswered h (Joined id below) = IsTrue (list_all (is_listed h) below)
IsEndAnswered h (Failed errno) = ⊤
IsEndAnswered h NoMemory = ⊤

-- its answer is the right word
abbrev pub HasAnswer : List RegEntry → RegEntry → Type 0
HasAnswer h (Enlist caller spec answer) = made_word answer ≡ made_word (enlist_answer (rows_of h) spec)
HasAnswer h (Look caller text plain answer) = found_word answer ≡ found_word (look_answer (rows_of h) (larvals_of h) text plain)
HasAnswer h (End caller larval answer) = IsEndAnswered h answer
HasAnswer h (Unlist caller driver answer) = is_some answer ≡ is_some (driver_place (rows_of h) driver)
HasAnswer h (Get caller id ok) = ok ≡ is_listed h id
HasAnswer h _ = ⊤

-- the event isn't right after these, and this is the first reason
abbrev pub IsWrong : List RegEntry → RegEntry → Reason → Type 0
IsWrong h e reason = IsFirstMissing (HasState h e) (HasCaller h e) (HasNumber h e) (HasAnswer h e) reason

abbrev pub IsFirstWrongAt : List RegEntry → ℕ × Reason → Type 0
IsFirstWrongAt h found = LegalReg (take found.0 h) × MatchOption (slice_get h found.0) ⊥ (λ e. IsWrong (take found.0 h) e found.1)

-- the first event that isn't right, where there is one
abbrev pub IsFirstWrong : List RegEntry → Option (ℕ × Reason) → Type 0
IsFirstWrong h None = LegalReg h
IsFirstWrong h (Some found) = IsFirstWrongAt h found

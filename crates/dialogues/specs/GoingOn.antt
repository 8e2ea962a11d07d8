-- Laws: what stays of a caller's calls as the histories go on.
use Rattle.std.specs.Prelude.{ℕ, ◌≤◌, ◌≡◌, true, false, List, [], ◌∷◌, ◌++◌, length, filter, Some, slice_get}
use Rattle.std.specs.List.{list_all}
use Rattle.alg_registry.specs.declared.entry.RegEntry.{RegEntry}
use Rattle.board.specs.declared.entry.BoardEntry.{BoardEntry}
use Rattle.templates.specs.LookResults.{Found, found_in, LooksFor, is_asked}
use Rattle.alg_registry.specs.declared.entry.Looked.{Looked}
use Rattle.alg_registry.specs.declared.spec.Spec.{Spec}
use Rattle.alg_registry.specs.Rows.{registered}
use Rattle.transforms.specs.declared.ask.Ask.{Ask}
use Rattle.dialogues.specs.BoardCalls.{board_calls, board_calls_from, is_called}
use Rattle.dialogues.specs.InTurn.{AsksNothing, AreInTurn, AreMade, AreInTurnBy, is_look, AreCalls}
use Rattle.dialogues.specs.RegistryCalls.{RegCall, Looks, reg_call_of, reg_calls, reg_calls_from, is_settled, AllSettled}

-- ---- of the registry

-- What was registered stays, and so does what a look came to, whatever is recorded later.
abbrev pub RegisteredStays : Type 0
RegisteredStays = (h more : List RegEntry) (id : ℕ) (spec : Spec) → slice_get (registered h) id ≡ Some spec → slice_get (registered (h ++ more)) id ≡ Some spec

abbrev pub FoundStays : Type 0
FoundStays = (h more : List RegEntry) (answer : Looked) (x : Found) → found_in h answer ≡ Some x → found_in (h ++ more) answer ≡ Some x

-- A history that goes on has the caller's calls of before, where each of these has come to something, and those of what
-- was added.
abbrev pub RegistryCallsGoOn : Type 0
RegistryCallsGoOn =
    (caller : ℕ) (h more : List RegEntry) → AllSettled (reg_calls caller h)
    → reg_calls caller (h ++ more) ≡ reg_calls caller h ++ reg_calls_from (h ++ more) caller h more

abbrev pub RegistryCallsJoin : Type 0
RegistryCallsJoin =
    (h : List RegEntry) (caller : ℕ) (before a b : List RegEntry)
    → reg_calls_from h caller before (a ++ b) ≡ reg_calls_from h caller before a ++ reg_calls_from h caller (before ++ a) b

-- where the caller asked nothing there are no calls of its
abbrev pub RegistryUnasked : Type 0
RegistryUnasked =
    (h : List RegEntry) (caller : ℕ) (before more : List RegEntry) → filter (is_asked caller) more ≡ [] → reg_calls_from h caller before more ≡ []

-- ---- of the board

abbrev pub BoardCallsGoOn : Type 0
BoardCallsGoOn = (caller : ℕ) (h more : List (BoardEntry Ask)) → board_calls caller (h ++ more) ≡ board_calls caller h ++ board_calls_from caller h more

abbrev pub BoardCallsJoin : Type 0
BoardCallsJoin =
    (caller : ℕ) (before a b : List (BoardEntry Ask))
    → board_calls_from caller before (a ++ b) ≡ board_calls_from caller before a ++ board_calls_from caller (before ++ a) b

abbrev pub BoardUncalled : Type 0
BoardUncalled = (caller : ℕ) (before more : List (BoardEntry Ask)) → filter (is_called caller) more ≡ [] → board_calls_from caller before more ≡ []

-- ---- calls in turn

abbrev pub NoCall : Type 0
NoCall = (caller : ℕ) (r : List RegEntry) → AreInTurn caller [] r r

-- a call of one entry
abbrev pub OneCall : Type 0
OneCall =
    (caller : ℕ) (call : RegCall) (r r' : List RegEntry) (e : RegEntry) → r' ≡ r ++ e ∷ [] → reg_call_of r' caller r e ≡ Some call
    → is_settled call ≡ true → AreInTurn caller (call ∷ []) r r'

-- a look, and what it came to
abbrev pub OneLook : Type 0
OneLook =
    (caller : ℕ) (r r' : List RegEntry) (text : List ℕ) (found : Found) → LooksFor r r' caller text false found
    → AreInTurn caller (Looks text (Some found) ∷ []) r r'

-- calls, and what was recorded before the first of them
abbrev pub NothingThenCalls : Type 0
NothingThenCalls =
    (caller : ℕ) (calls : List RegCall) (r m r' : List RegEntry) → AsksNothing caller r m → AreInTurn caller calls m r' → AreInTurn caller calls r r'

abbrev pub CallsThenCalls : Type 0
CallsThenCalls =
    (caller : ℕ) (calls later : List RegCall) (r m r' : List RegEntry) → AreInTurn caller calls r m → AreInTurn caller later m r'
    → AreInTurn caller (calls ++ later) r r'

-- calls in turn are the caller's further calls
abbrev pub CallsInTurnAre : Type 0
CallsInTurnAre =
    (caller : ℕ) (calls : List RegCall) (r r' : List RegEntry) → AllSettled (reg_calls caller r) → AreInTurn caller calls r r' → AreCalls caller calls r r'

-- ---- calls with several looks at once

-- calls in turn are so with any number of looks at once
abbrev pub InTurnByAny : Type 0
InTurnByAny = (width caller : ℕ) (calls : List RegCall) (r r' : List RegEntry) → AreInTurn caller calls r r' → AreInTurnBy width caller calls r r'

-- and with at most one look at once they are in turn
abbrev pub InTurnByOne : Type 0
InTurnByOne = (width caller : ℕ) (calls : List RegCall) (r r' : List RegEntry) → width ≤ 1 → AreInTurnBy width caller calls r r' → AreInTurn caller calls r r'

-- a greater number allows more
abbrev pub InTurnByMore : Type 0
InTurnByMore =
    (width wider caller : ℕ) (calls : List RegCall) (r r' : List RegEntry) → width ≤ wider → AreInTurnBy width caller calls r r'
    → AreInTurnBy wider caller calls r r'

-- looks at once
abbrev pub LooksAtOnce : Type 0
LooksAtOnce =
    (width caller : ℕ) (calls : List RegCall) (r r' : List RegEntry) → list_all is_look calls ≡ true → length calls ≤ width → AreMade caller calls r r'
    → AreInTurnBy width caller calls r r'

abbrev pub NothingThenCallsBy : Type 0
NothingThenCallsBy =
    (width caller : ℕ) (calls : List RegCall) (r m r' : List RegEntry) → AsksNothing caller r m → AreInTurnBy width caller calls m r'
    → AreInTurnBy width caller calls r r'

abbrev pub CallsThenCallsBy : Type 0
CallsThenCallsBy =
    (width caller : ℕ) (calls later : List RegCall) (r m r' : List RegEntry) → AreInTurnBy width caller calls r m → AreInTurnBy width caller later m r'
    → AreInTurnBy width caller (calls ++ later) r r'

abbrev pub CallsByAre : Type 0
CallsByAre =
    (width caller : ℕ) (calls : List RegCall) (r r' : List RegEntry) → AllSettled (reg_calls caller r) → AreInTurnBy width caller calls r r'
    → AreCalls caller calls r r'

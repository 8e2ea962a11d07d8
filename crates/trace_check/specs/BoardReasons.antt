-- What a board's event needs, in four parts: the state of its pipeline, its caller, its numbers, and the word of its
-- answer.
use Rattle.std.specs.Prelude.{◌≡◌, ◌≢◌, ℕ, ◌<◌, ◌^◌, false, List, [], ◌∷◌, take, length, slice_get, codes, Option, Some, None, MatchOption, ⊤}
use Rattle.board.specs.declared.entry.Entered.{Entered}
use Rattle.board.specs.declared.entry.Entered.TheVariants.{InProgress, Busy, NoSpace}
use Rattle.board.specs.declared.entry.BoardEntry.{BoardEntry}
use Rattle.board.specs.declared.entry.BoardEntry.TheVariants.{Born, Submit, Take, Finish, Enq, Deq, Done, Hold, Go, Collect, Close, Share, Mask, Shut}
use Rattle.board.specs.Shapes.{has_lists, is_serial, width_born, IsShape}
use Rattle.board.specs.Entries.{entries_of, birth, submissions, dequeued, passed_on, takers, finished, has, front, verdict, waiting, starts, told, collected, is_held, is_shared, mask, MayTake}
use Rattle.board.specs.Legal.{IsNoWorker, MaySubmit, MayManage, Is, IsOpenAs, IsOpenPad, IsOpenQueue, IsOpen, pipelines, is_shut, LegalBoard}
use Rattle.trace_check.specs.declared.reason.Reason.{Reason}
use Rattle.trace_check.specs.Reasons.{IsFirstMissing}

-- What follows speaks of the entries of one pipeline.

-- the request was accepted, of a chain it went on to the pad, and nobody took it
abbrev pub IsUntaken : {A : Type 0} → List (BoardEntry A) → ℕ → Type 0
IsUntaken es number = (number < passed_on es) × (takers number es ≡ [])

-- somebody took the request, and it isn't finished
abbrev pub IsRunning : {A : Type 0} → List (BoardEntry A) → ℕ → Type 0
IsRunning es number = (takers number es ≢ []) × (has number (finished es) ≡ false)

-- the next in line may leave it: the line isn't held, of a queue none runs, and one waits
abbrev pub MayServe : {A : Type 0} → List (BoardEntry A) → Type 0
MayServe es = (is_held es ≡ false) × (Is is_serial es → length (finished es) ≡ dequeued es) × (0 < waiting es)

-- all of it is finished and handed out, and nobody shares it
abbrev pub MayClose : {A : Type 0} → List (BoardEntry A) → Type 0
MayClose es = (is_shared es ≡ false) × (front es ≡ length (submissions es)) × (collected es ≡ length (told es))

-- the state that the event needs is there
abbrev pub HasState : {A : Type 0} → List (BoardEntry A) → BoardEntry A → Type 0
HasState h (Born caller pipe shape) = ⊤
HasState h (Submit caller pipe number ask) = IsOpenPad (entries_of pipe h) × (0 < mask (entries_of pipe h))
HasState h (Take caller pipe number) = IsOpenAs has_lists (entries_of pipe h) × IsUntaken (entries_of pipe h) number
HasState h (Finish caller pipe number) = Is has_lists (entries_of pipe h) × IsRunning (entries_of pipe h) number
HasState h (Enq caller pipe ask backlog answer) = IsOpenQueue (entries_of pipe h)
HasState h (Deq caller pipe number started) = IsOpenQueue (entries_of pipe h) × MayServe (entries_of pipe h)
HasState h (Done caller pipe number) = Is is_serial (entries_of pipe h) × IsRunning (entries_of pipe h) number
HasState h (Hold caller pipe) = IsOpenQueue (entries_of pipe h)
HasState h (Go caller pipe) = IsOpenQueue (entries_of pipe h)
HasState h (Collect caller pipe to) = IsOpen (entries_of pipe h)
HasState h (Close caller pipe) = IsOpen (entries_of pipe h) × MayClose (entries_of pipe h)
HasState h (Share caller pipe) = IsOpen (entries_of pipe h)
HasState h (Mask caller pipe mask) = IsOpenPad (entries_of pipe h) × (is_shared (entries_of pipe h) ≡ false)
HasState h (Shut caller) = is_shut h ≡ false

-- its caller is one who may make it
abbrev pub HasCaller : {A : Type 0} → List (BoardEntry A) → BoardEntry A → Type 0
HasCaller h (Born caller pipe shape) = IsNoWorker caller
HasCaller h (Submit caller pipe number ask) = MaySubmit (entries_of pipe h) caller
HasCaller h (Take caller pipe number) = MayTake (entries_of pipe h) caller
HasCaller h (Finish caller pipe number) = takers number (entries_of pipe h) ≡ caller ∷ []
HasCaller h (Enq caller pipe ask backlog answer) = MaySubmit (entries_of pipe h) caller
HasCaller h (Deq caller pipe number started) = ⊤
HasCaller h (Done caller pipe number) = takers number (entries_of pipe h) ≡ caller ∷ []
HasCaller h (Hold caller pipe) = MayManage (entries_of pipe h) caller
HasCaller h (Go caller pipe) = MayManage (entries_of pipe h) caller
HasCaller h (Collect caller pipe to) = MayManage (entries_of pipe h) caller
HasCaller h (Close caller pipe) = MayManage (entries_of pipe h) caller
HasCaller h (Share caller pipe) = MayManage (entries_of pipe h) caller
HasCaller h (Mask caller pipe mask) = MayManage (entries_of pipe h) caller
HasCaller h (Shut caller) = caller ≡ 0

-- an accepted request has the next number
abbrev pub IsNumbered : {A : Type 0} → List (BoardEntry A) → Entered → Type 0
IsNumbered es (InProgress number) = number ≡ length (submissions es)
IsNumbered es (Busy number) = number ≡ length (submissions es)
IsNumbered es NoSpace = ⊤

-- its numbers are the right ones
abbrev pub HasNumber : {A : Type 0} → List (BoardEntry A) → BoardEntry A → Type 0
HasNumber h (Born caller pipe shape) = (pipe ≡ pipelines h) × IsShape shape
HasNumber h (Submit caller pipe number ask) = number ≡ length (submissions (entries_of pipe h))
HasNumber h (Enq caller pipe ask backlog answer) = IsNumbered (entries_of pipe h) answer
HasNumber h (Deq caller pipe number started) =
    (number ≡ dequeued (entries_of pipe h)) × (started ≡ starts (entries_of pipe h) number)
HasNumber h (Collect caller pipe to) = to ≡ length (told (entries_of pipe h))
HasNumber h (Mask caller pipe mask) = mask < 2 ^ width_born (birth (entries_of pipe h))
HasNumber h _ = ⊤

-- a queue's answer but for its number
abbrev pub verdict_word : Entered → List ℕ
verdict_word (InProgress number) = codes "EINPROGRESS"
verdict_word (Busy number) = codes "EBUSY"
verdict_word NoSpace = codes "ENOSPC"

-- its answer is the right word
abbrev pub HasAnswer : {A : Type 0} → List (BoardEntry A) → BoardEntry A → Type 0
HasAnswer h (Enq caller pipe ask backlog answer) = verdict_word answer ≡ verdict_word (verdict (entries_of pipe h) backlog)
HasAnswer h _ = ⊤

-- the event isn't right after these, and this is the first reason
abbrev pub IsWrong : {A : Type 0} → List (BoardEntry A) → BoardEntry A → Reason → Type 0
IsWrong h e reason = IsFirstMissing (HasState h e) (HasCaller h e) (HasNumber h e) (HasAnswer h e) reason

-- the events before this place are right, and the event there isn't
abbrev pub IsFirstWrongAt : {A : Type 0} → List (BoardEntry A) → ℕ × Reason → Type 0
IsFirstWrongAt h found = LegalBoard (take found.0 h) × MatchOption (slice_get h found.0) ⊥ (λ e. IsWrong (take found.0 h) e found.1)

-- the first event that isn't right, where there is one
abbrev pub IsFirstWrong : {A : Type 0} → List (BoardEntry A) → Option (ℕ × Reason) → Type 0
IsFirstWrong h None = LegalBoard h
IsFirstWrong h (Some found) = IsFirstWrongAt h found

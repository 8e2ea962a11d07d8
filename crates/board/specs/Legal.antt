use Rattle.std.specs.Prelude.{◌≡◌, ℕ, ◌<◌, ◌^◌, ◌⊎◌, Bool, true, false, List, [], ◌∷◌, ◌++◌, length, Option, Some, None}
use Rattle.std.specs.List.{filter_map, list_any}
use Rattle.board.specs.declared.entry.Shape.{Shape}
use Rattle.board.specs.declared.entry.BoardEntry.{BoardEntry}
use Rattle.board.specs.declared.entry.BoardEntry.TheVariants.{Born, Submit, Take, Finish, Enq, Deq, Done, Hold, Go, Collect, Close, Share, Mask, Shut}
use Rattle.board.specs.Shapes.{is_pad, has_queue, has_lists, is_serial, is_born, width_born, IsShape}
use Rattle.board.specs.Entries.{pipe_of, entries_of, birth_in, birth, submissions, dequeued, passed_on, waiting, takers, finished, has, meaning_at, front, verdict, starts, told, collected, is_held, is_closed, is_shared, mask, IsMaker, MayTake, caller_of}

-- callers 1 to 16 are workers
abbrev pub IsNoWorker : ℕ → Type 0
IsNoWorker caller = (caller < 1) ⊎ (16 < caller)

abbrev pub MaySubmit : {A : Type 0} → List (BoardEntry A) → ℕ → Type 0
MaySubmit es caller = IsNoWorker caller × (IsMaker es caller ⊎ (is_shared es ≡ true))

abbrev pub MayManage : {A : Type 0} → List (BoardEntry A) → ℕ → Type 0
MayManage es caller = IsNoWorker caller × IsMaker es caller

-- the pipeline is of such a shape
abbrev pub Is : {A : Type 0} → (Shape → Bool) → List (BoardEntry A) → Type 0
Is such es = is_born such (birth es) ≡ true

abbrev pub IsOpenAs : {A : Type 0} → (Shape → Bool) → List (BoardEntry A) → Type 0
IsOpenAs such es = Is such es × (is_closed es ≡ false)

abbrev pub IsOpenPad : {A : Type 0} → List (BoardEntry A) → Type 0
IsOpenPad es = IsOpenAs is_pad es

-- an open pipeline in front of which a queue stands
abbrev pub IsOpenQueue : {A : Type 0} → List (BoardEntry A) → Type 0
IsOpenQueue es = IsOpenAs has_queue es

-- an open pad, or an open queue or chain
abbrev pub IsOpen : {A : Type 0} → List (BoardEntry A) → Type 0
IsOpen es = IsOpenPad es ⊎ IsOpenQueue es

-- this caller took the number and hasn't finished it, and this is what the number's ask means
abbrev pub MayFinish : {A O : Type 0} → (A → O) → List (BoardEntry A) → ℕ → ℕ → O → Type 0
MayFinish meaning es caller n out =
    (takers n es ≡ caller ∷ []) × (has n (finished es) ≡ false) × (meaning_at meaning (submissions es) n ≡ Some out)

-- each entry of a pipeline that may come after these entries of it
abbrev pub IsRightFor : {A : Type 0} → List (BoardEntry A) → BoardEntry A → Type 0
IsRightFor es (Born caller pipe shape) = IsNoWorker caller × (es ≡ []) × IsShape shape
IsRightFor es (Submit caller pipe number ask) = MaySubmit es caller × IsOpenPad es × (number ≡ length (submissions es)) × (0 < mask es)
IsRightFor es (Take caller pipe number) = IsOpenAs has_lists es × (number < passed_on es) × (takers number es ≡ []) × MayTake es caller
IsRightFor es (Finish caller pipe number) = Is has_lists es × (takers number es ≡ caller ∷ []) × (has number (finished es) ≡ false)
IsRightFor es (Enq caller pipe ask backlog answer) = MaySubmit es caller × IsOpenQueue es × (answer ≡ verdict es backlog)
IsRightFor es (Deq caller pipe number started) =
    IsOpenQueue es × (is_held es ≡ false) × (Is is_serial es → length (finished es) ≡ dequeued es) × (0 < waiting es)
    × (number ≡ dequeued es) × (started ≡ starts es number)
IsRightFor es (Done caller pipe number) = Is is_serial es × (takers number es ≡ caller ∷ []) × (has number (finished es) ≡ false)
IsRightFor es (Hold caller pipe) = MayManage es caller × IsOpenQueue es
IsRightFor es (Go caller pipe) = MayManage es caller × IsOpenQueue es
IsRightFor es (Collect caller pipe to) = MayManage es caller × (is_closed es ≡ false) × (to ≡ length (told es))
IsRightFor es (Close caller pipe) =
    MayManage es caller × (is_closed es ≡ false) × (is_shared es ≡ false) × (front es ≡ length (submissions es)) × (collected es ≡ length (told es))
IsRightFor es (Share caller pipe) = MayManage es caller × (is_closed es ≡ false)
IsRightFor es (Mask caller pipe mask) = MayManage es caller × IsOpenPad es × (is_shared es ≡ false) × (mask < 2 ^ width_born (birth es))
IsRightFor es (Shut caller) = ⊥

-- how many pipelines there are
abbrev pub pipelines : {A : Type 0} → List (BoardEntry A) → ℕ
pipelines h = length (filter_map birth_in h)

abbrev pub is_shut_entry : {A : Type 0} → BoardEntry A → Bool
is_shut_entry (Shut caller) = true
is_shut_entry _ = false

abbrev pub is_shut : {A : Type 0} → List (BoardEntry A) → Bool
is_shut h = list_any is_shut_entry h

-- a pipeline that is born has the next number
abbrev pub IsNext : {A : Type 0} → List (BoardEntry A) → BoardEntry A → Type 0
IsNext h (Born caller pipe shape) = pipe ≡ pipelines h
IsNext h _ = Unit {0}

-- an entry of a pipeline is right after that pipeline's entries; the other is Shut, which caller 0 makes once
abbrev pub IsRightOn : {A : Type 0} → Option ℕ → List (BoardEntry A) → BoardEntry A → Type 0
IsRightOn (Some p) h e = IsNext h e × IsRightFor (entries_of p h) e
IsRightOn None h e = (caller_of e ≡ 0) × (is_shut h ≡ false)

-- the entry may come after these
abbrev pub IsRight : {A : Type 0} → List (BoardEntry A) → BoardEntry A → Type 0
IsRight h e = IsRightOn (pipe_of e) h e

-- each entry of the list is right after those before it
abbrev pub AreRightAfter : {A : Type 0} → List (BoardEntry A) → List (BoardEntry A) → Type 0
AreRightAfter before [] = Unit {0}
AreRightAfter before (e ∷ h) = IsRight before e × AreRightAfter (before ++ e ∷ []) h

abbrev pub LegalBoard : {A : Type 0} → List (BoardEntry A) → Type 0
LegalBoard h = AreRightAfter [] h

use Rattle.std.specs.Prelude.{◌≡◌, ◌≢◌, ◌⊎◌, ℕ, zero, suc, ◌+◌, ◌-◌, ◌^◌, ◌<◌, ◌≤◌, max, count_ones, Bool, true, false, ◌==◌, nat_lt, if◌then◌else◌, List, [], ◌∷◌, ◌++◌, length, filter, map, take, drop, Option, Some, None, slice_get}
use Rattle.std.specs.List.{filter_map, list_any}
use Rattle.std.specs.Int.{bit_at}
use Rattle.std.specs.Arc.{arc_value}
use Rattle.kc_base.specs.declared.callback_list.Callback.{Callback}
use Rattle.kc_base.specs.declared.callback_list.Callback.TheVariants as callback
use Rattle.board.specs.declared.entry.Shape.{Shape}
use Rattle.board.specs.declared.entry.Entered.{Entered}
use Rattle.board.specs.declared.entry.Entered.TheVariants.{InProgress, Busy, NoSpace}
use Rattle.board.specs.declared.entry.BoardEntry.{BoardEntry}
use Rattle.board.specs.declared.entry.BoardEntry.TheVariants.{Born, Submit, Take, Finish, Enq, Deq, Done, Hold, Go, Collect, Close, Share, Mask, Shut}
use Rattle.board.specs.Shapes.{is_chain, is_born, queue_born, has_queue_born, lists_born, max_born, width_born}

-- the pipeline whose entry it is
abbrev pub pipe_of : {A : Type 0} → BoardEntry A → Option ℕ
pipe_of (Born caller pipe shape) = Some pipe
pipe_of (Submit caller pipe number ask) = Some pipe
pipe_of (Take caller pipe number) = Some pipe
pipe_of (Finish caller pipe number) = Some pipe
pipe_of (Enq caller pipe ask backlog answer) = Some pipe
pipe_of (Deq caller pipe number started) = Some pipe
pipe_of (Done caller pipe number) = Some pipe
pipe_of (Hold caller pipe) = Some pipe
pipe_of (Go caller pipe) = Some pipe
pipe_of (Collect caller pipe to) = Some pipe
pipe_of (Close caller pipe) = Some pipe
pipe_of (Share caller pipe) = Some pipe
pipe_of (Mask caller pipe mask) = Some pipe
pipe_of (Shut caller) = None

abbrev pub is_pipe : ℕ → Option ℕ → Bool
is_pipe p (Some pipe) = pipe == p
is_pipe p None = false

-- whether the entry is one of the pipeline's
abbrev pub is_of : {A : Type 0} → ℕ → BoardEntry A → Bool
is_of p e = is_pipe p (pipe_of e)

-- the entries of one pipeline
abbrev pub entries_of : {A : Type 0} → ℕ → List (BoardEntry A) → List (BoardEntry A)
entries_of p h = filter (is_of p) h

-- What follows speaks of the entries of one pipeline.

-- who made it, and its shape
abbrev pub birth_in : {A : Type 0} → BoardEntry A → Option (ℕ × Shape)
birth_in (Born caller pipe shape) = Some (caller, shape)
birth_in _ = None

abbrev pub first : {X : Type 0} → List X → Option X
first [] = None
first (x ∷ xs) = Some x

abbrev pub birth : {A : Type 0} → List (BoardEntry A) → Option (ℕ × Shape)
birth es = first (filter_map birth_in es)

-- the asks that it accepted, in order
abbrev pub accepted_in : {A : Type 0} → BoardEntry A → Option A
accepted_in (Submit caller pipe number ask) = Some (arc_value ask)
accepted_in (Enq caller pipe ask backlog (InProgress number)) = Some (arc_value ask)
accepted_in (Enq caller pipe ask backlog (Busy number)) = Some (arc_value ask)
accepted_in _ = None

abbrev pub submissions : {A : Type 0} → List (BoardEntry A) → List A
submissions es = filter_map accepted_in es

-- the numbers that left the queue, each with who let it out
abbrev pub dequeued_in : {A : Type 0} → BoardEntry A → Option (ℕ × ℕ)
dequeued_in (Deq caller pipe number started) = Some (number, caller)
dequeued_in _ = None

abbrev pub dequeues : {A : Type 0} → List (BoardEntry A) → List (ℕ × ℕ)
dequeues es = filter_map dequeued_in es

abbrev pub dequeued : {A : Type 0} → List (BoardEntry A) → ℕ
dequeued es = length (dequeues es)

-- how many wait in the queue
abbrev pub waiting : {A : Type 0} → List (BoardEntry A) → ℕ
waiting es = length (submissions es) - dequeued es

-- how many are past the queue: on a pad all that were accepted
abbrev pub passed_on : {A : Type 0} → List (BoardEntry A) → ℕ
passed_on es = if has_queue_born (birth es) then dequeued es else length (submissions es)

-- the numbers that were taken off a pad, each with who took it
abbrev pub taken_in : {A : Type 0} → BoardEntry A → Option (ℕ × ℕ)
taken_in (Take caller pipe number) = Some (number, caller)
taken_in _ = None

-- the numbers whose jobs were handed out to be run, each with who runs it
abbrev pub takings : {A : Type 0} → List (BoardEntry A) → List (ℕ × ℕ)
takings es = if queue_born (birth es) then dequeues es else filter_map taken_in es

-- who took this number
abbrev pub takers : {A : Type 0} → ℕ → List (BoardEntry A) → List ℕ
takers n es = map (λ t. t.1) (filter (λ t. t.0 == n) (takings es))

-- the numbers that are finished
abbrev pub finished_in : {A : Type 0} → BoardEntry A → Option ℕ
finished_in (Finish caller pipe number) = Some number
finished_in (Done caller pipe number) = Some number
finished_in _ = None

abbrev pub finished : {A : Type 0} → List (BoardEntry A) → List ℕ
finished es = filter_map finished_in es

abbrev pub has : ℕ → List ℕ → Bool
has n ns = list_any (λ m. m == n) ns

-- how many of the numbers n, n + 1 and so on, of which there are so many, are in the list up to the first that is not
abbrev pub unbroken : List ℕ → ℕ → ℕ → ℕ
unbroken ns n zero = 0
unbroken ns n (suc many) = if has n ns then suc (unbroken ns (suc n) many) else 0

-- every number below the front is finished, and the front itself is not, or was not submitted
abbrev pub front : {A : Type 0} → List (BoardEntry A) → ℕ
front es = unbroken (finished es) 0 (length (submissions es))

-- what a queue answers to a request that comes now
abbrev pub verdict : {A : Type 0} → List (BoardEntry A) → Bool → Entered
verdict es backlog =
    if nat_lt (waiting es) (max_born (birth es)) then InProgress (length (submissions es))
    else (if backlog then Busy (length (submissions es)) else NoSpace)

-- which request is told that it has started where the number n leaves the queue
abbrev pub starts : {A : Type 0} → List (BoardEntry A) → ℕ → Option ℕ
starts es n =
    if nat_lt (n + max_born (birth es)) (length (submissions es)) then Some (n + max_born (birth es)) else None

-- the entry by which this number is taken: on a queue a Deq with what it starts, otherwise a Take
abbrev pub take_entry : {A : Type 0} → List (BoardEntry A) → ℕ → ℕ → ℕ → BoardEntry A
take_entry h caller pipe number =
    if queue_born (birth (entries_of pipe h)) then Deq caller pipe number (starts (entries_of pipe h) number) else Take caller pipe number

-- the entry by which it is finished: on a queue a Done, otherwise a Finish
abbrev pub finish_entry : {A : Type 0} → List (BoardEntry A) → ℕ → ℕ → ℕ → BoardEntry A
finish_entry h caller pipe number =
    if queue_born (birth (entries_of pipe h)) then Done caller pipe number else Finish caller pipe number

-- the entry by which a chain's next request goes on to its pad
abbrev pub pass_entry : {A : Type 0} → List (BoardEntry A) → ℕ → ℕ → BoardEntry A
pass_entry h caller pipe =
    Deq caller pipe (dequeued (entries_of pipe h)) (starts (entries_of pipe h) (dequeued (entries_of pipe h)))

-- what a pipeline tells of its requests, by their numbers
pub data Notice : Type 0 where
  Starts : (number : ℕ) → Notice
  Completes : (number : ℕ) → Notice

-- the completions of so many numbers from n on
abbrev pub completes_from : ℕ → ℕ → List Notice
completes_from n zero = []
completes_from n (suc many) = Completes n ∷ completes_from (suc n) many

-- what an entry tells after those before it: a Deq what it starts, a Done its completion, a Finish the completions from
-- the front before it up to the front after it
abbrev pub tells : {A : Type 0} → List (BoardEntry A) → BoardEntry A → List Notice
tells es (Deq caller pipe number (Some started)) = Starts started ∷ []
tells es (Done caller pipe number) = Completes number ∷ []
tells es (Finish caller pipe number) = completes_from (front es) (front (es ++ Finish caller pipe number ∷ []) - front es)
tells es _ = []

abbrev pub told_after : {A : Type 0} → List (BoardEntry A) → List (BoardEntry A) → List Notice
told_after before [] = []
told_after before (e ∷ es) = tells before e ++ told_after (before ++ e ∷ []) es

-- all that a pipeline told, one entry after another
abbrev pub told : {A : Type 0} → List (BoardEntry A) → List Notice
told es = told_after [] es

abbrev pub last_or : {X : Type 0} → X → List X → X
last_or d [] = d
last_or d (x ∷ xs) = last_or x xs

-- how many of these were collected
abbrev pub collected_in : {A : Type 0} → BoardEntry A → Option ℕ
collected_in (Collect caller pipe to) = Some to
collected_in _ = None

abbrev pub collected : {A : Type 0} → List (BoardEntry A) → ℕ
collected es = last_or 0 (filter_map collected_in es)

-- whether it is held
abbrev pub held_in : {A : Type 0} → BoardEntry A → Option Bool
held_in (Hold caller pipe) = Some true
held_in (Go caller pipe) = Some false
held_in _ = None

abbrev pub is_held : {A : Type 0} → List (BoardEntry A) → Bool
is_held es = last_or false (filter_map held_in es)

-- which workers may take from it, a bit for each: at first all, one to a list
abbrev pub masked_in : {A : Type 0} → BoardEntry A → Option ℕ
masked_in (Mask caller pipe mask) = Some mask
masked_in _ = None

abbrev pub mask : {A : Type 0} → List (BoardEntry A) → ℕ
mask es = last_or (2 ^ width_born (birth es) - 1) (filter_map masked_in es)

-- a pad has so many reorder lists: one for each worker in its mask, and one at least
abbrev pub lists_for : ℕ → ℕ
lists_for mask = max (count_ones mask) 1

-- bit i stands for caller i + 1
abbrev pub IsMasked : ℕ → ℕ → Type 0
IsMasked mask caller = (1 ≤ caller) × (caller ≤ 16) × (bit_at mask (caller - 1) ≡ 1)

-- who submitted what it accepted
abbrev pub submitter_in : {A : Type 0} → BoardEntry A → Option ℕ
submitter_in (Submit caller pipe number ask) = Some caller
submitter_in (Enq caller pipe ask backlog (InProgress number)) = Some caller
submitter_in (Enq caller pipe ask backlog (Busy number)) = Some caller
submitter_in _ = None

abbrev pub submitters : {A : Type 0} → List (BoardEntry A) → List ℕ
submitters es = filter_map submitter_in es

abbrev pub maker_is : Option (ℕ × Shape) → ℕ → Type 0
maker_is (Some (maker, shape)) caller = maker ≡ caller
maker_is None caller = ⊥

-- this caller made the pipeline
abbrev pub IsMaker : {A : Type 0} → List (BoardEntry A) → ℕ → Type 0
IsMaker es caller = maker_is (birth es) caller

-- the caller made the pipeline, or submitted to it, or is a worker in its mask
abbrev pub MayTake : {A : Type 0} → List (BoardEntry A) → ℕ → Type 0
MayTake es caller = IsMaker es caller ⊎ ((has caller (submitters es) ≡ true) ⊎ IsMasked (mask es) caller)

-- each request past the queue is taken
abbrev pub AllTaken : {A : Type 0} → List (BoardEntry A) → Type 0
AllTaken es = (n : ℕ) → n < passed_on es → takers n es ≢ []

-- the queue may not be served: it is held, or a job of it runs, or none waits
abbrev pub IsHeldBusyOrEmpty : {A : Type 0} → List (BoardEntry A) → Type 0
IsHeldBusyOrEmpty es = (is_held es ≡ true) ⊎ ((length (finished es) < dequeued es) ⊎ (waiting es ≡ 0))

-- no pad or chain from which this caller may take has an untaken number, and no queue may be served
abbrev pub NoneFor : {A : Type 0} → List (BoardEntry A) → ℕ → Type 0
NoneFor h caller =
    (p : ℕ)
    → (lists_born (birth (entries_of p h)) ≡ true → MayTake (entries_of p h) caller → AllTaken (entries_of p h))
    × (queue_born (birth (entries_of p h)) ≡ true → IsHeldBusyOrEmpty (entries_of p h))

-- each chain is held, or none waits in its queue
abbrev pub NonePasses : {A : Type 0} → List (BoardEntry A) → Type 0
NonePasses h =
    (p : ℕ) → is_born is_chain (birth (entries_of p h)) ≡ true → (is_held (entries_of p h) ≡ true) ⊎ (waiting (entries_of p h) ≡ 0)

abbrev pub is_close : {A : Type 0} → BoardEntry A → Bool
is_close (Close caller pipe) = true
is_close _ = false

abbrev pub is_closed : {A : Type 0} → List (BoardEntry A) → Bool
is_closed es = list_any is_close es

abbrev pub is_share : {A : Type 0} → BoardEntry A → Bool
is_share (Share caller pipe) = true
is_share _ = false

abbrev pub is_shared : {A : Type 0} → List (BoardEntry A) → Bool
is_shared es = list_any is_share es

-- What a notice is once the requests and their meanings are known.
abbrev pub completion : {O : Type 0} → ℕ → Option O → Option (Callback O)
completion n (Some out) = Some (callback.Done n out)
completion n None = None

abbrev pub meaning_at : {A O : Type 0} → (A → O) → List A → ℕ → Option O
meaning_at meaning asks n = slice_get (map meaning asks) n

abbrev pub callback_of : {A O : Type 0} → (A → O) → List A → Notice → Option (Callback O)
callback_of meaning asks (Starts n) = Some (callback.Started n)
callback_of meaning asks (Completes n) = completion n (meaning_at meaning asks n)

-- what a collect up to this place hands out
abbrev pub delivered : {A O : Type 0} → (A → O) → List (BoardEntry A) → ℕ → List (Callback O)
delivered meaning es to = filter_map (callback_of meaning (submissions es)) (drop (collected es) (take to (told es)))

-- who made an entry
abbrev pub caller_of : {A : Type 0} → BoardEntry A → ℕ
caller_of (Born caller pipe shape) = caller
caller_of (Submit caller pipe number ask) = caller
caller_of (Take caller pipe number) = caller
caller_of (Finish caller pipe number) = caller
caller_of (Enq caller pipe ask backlog answer) = caller
caller_of (Deq caller pipe number started) = caller
caller_of (Done caller pipe number) = caller
caller_of (Hold caller pipe) = caller
caller_of (Go caller pipe) = caller
caller_of (Collect caller pipe to) = caller
caller_of (Close caller pipe) = caller
caller_of (Share caller pipe) = caller
caller_of (Mask caller pipe mask) = caller
caller_of (Shut caller) = caller

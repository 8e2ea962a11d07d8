-- What the calls on one pipeline do to it: a pad, a queue, or a chain of a queue and a pad.
use Rattle.std.specs.Prelude.{◌≡◌, ℕ, ◌+◌, ◌-◌, ◌<◌, ◌≤◌, ◌⊎◌, Bool, true, false, nat_lt, if◌then◌else◌, List, [], ◌∷◌, ◌++◌, length, take, drop, Option, Some, None, slice_get, slice_set}
use Rattle.kc_base.specs.declared.callback_list.Callback.{Callback}
use Rattle.kc_base.specs.declared.callback_list.Callback.TheVariants as callback
use Rattle.padata_core.specs.Pad.{Pad, taken_of, submitted_of, ready, with_taken, emptied, done_from, running_of}
use Rattle.request_queue.specs.BoundedQueue.{accepted, number_at_bound}
use Rattle.cryptd.specs.Server.{Server, started_callback, bare, ServesNone}
use Rattle.board.specs.declared.entry.Entered.{Entered}
use Rattle.board.specs.declared.entry.Entered.TheVariants.{InProgress, Busy, NoSpace}
use Rattle.board.specs.declared.stage.Stage.{Stage}
use Rattle.board.specs.declared.stage.Stage.TheVariants as stage

abbrev pub is_pad : {J O : Type 0} → Stage J O → Bool
is_pad (stage.Pad pad) = true
is_pad (stage.Queue server) = false
is_pad (stage.Chain c) = false

abbrev pub has_queue : {J O : Type 0} → Stage J O → Bool
has_queue (stage.Pad pad) = false
has_queue (stage.Queue server) = true
has_queue (stage.Chain c) = true

abbrev pub is_queue : {J O : Type 0} → Stage J O → Bool
is_queue (stage.Pad pad) = false
is_queue (stage.Queue server) = true
is_queue (stage.Chain c) = false

abbrev pub is_chain : {J O : Type 0} → Stage J O → Bool
is_chain (stage.Pad pad) = false
is_chain (stage.Queue server) = false
is_chain (stage.Chain c) = true

-- there is room for one more request: on a chain also within its pad, besides those that wait in the queue
abbrev pub HasRoom : {J O : Type 0} → Stage J O → Type 0
HasRoom (stage.Pad pad) = 1 ≤ pad.spare
HasRoom (stage.Queue server) = 1 ≤ server.spare
HasRoom (stage.Chain c) = (1 ≤ c.server.spare) × (length c.server.queue.waiting + 1 ≤ c.pad.spare)

-- each request that waits in the queue has its place within
abbrev pub IsPlaced : {J O : Type 0} → Stage J O → Type 0
IsPlaced (stage.Pad pad) = Unit {0}
IsPlaced (stage.Queue server) = Unit {0}
IsPlaced (stage.Chain c) = length c.server.queue.waiting ≤ c.pad.spare

abbrev pub bare_pad : {J O : Type 0} → Pad J O → Pad J O
bare_pad pad = record pad { spare = 0 }

-- all of it but the room that is kept for more requests
abbrev pub without_room : {J O : Type 0} → Stage J O → Stage J O
without_room (stage.Pad pad) = stage.Pad (bare_pad pad)
without_room (stage.Queue server) = stage.Queue (bare server)
without_room (stage.Chain c) = stage.Chain (record { server = bare c.server; pad = bare_pad c.pad })

-- how many requests it accepted
abbrev pub accepted_of : {J O : Type 0} → Stage J O → ℕ
accepted_of (stage.Pad pad) = submitted_of pad
accepted_of (stage.Queue server) = accepted server.queue
accepted_of (stage.Chain c) = accepted c.server.queue

abbrev pub entered_on : {J O : Type 0} → Server J O → Bool → Entered
entered_on server backlog =
    if nat_lt (length server.queue.waiting) server.queue.max then InProgress (accepted server.queue) else (if backlog then Busy (accepted server.queue) else NoSpace)

abbrev pub answer_of : {J O : Type 0} → Stage J O → Bool → Entered
answer_of (stage.Pad pad) backlog = NoSpace
answer_of (stage.Queue server) backlog = entered_on server backlog
answer_of (stage.Chain c) backlog = entered_on c.server backlog

abbrev pub with_waiting : {J O : Type 0} → Server J O → J → Entered → Server J O
with_waiting server job (InProgress number) = record server { queue = record server.queue { waiting = server.queue.waiting ++ job ∷ [] } }
with_waiting server job (Busy number) = record server { queue = record server.queue { waiting = server.queue.waiting ++ job ∷ [] } }
with_waiting server job NoSpace = server

abbrev pub after_entered : {J O : Type 0} → Stage J O → J → Entered → Stage J O
after_entered (stage.Pad pad) job answer = stage.Pad pad
after_entered (stage.Queue server) job answer = stage.Queue (with_waiting server job answer)
after_entered (stage.Chain c) job answer = stage.Chain (record c { server = with_waiting c.server job answer })

-- the first request of a chain's queue goes on to its pad
abbrev pub passed : {J O : Type 0} → Server J O → List J → Server J O
passed server rest =
    record server {
      queue = record server.queue { served = server.queue.served + 1; waiting = rest };
      passed = server.passed + 1;
      pending = server.pending ++ started_callback (number_at_bound server.queue);
    }

-- and stands last on the pad, in a place that was kept for it
abbrev pub with_passed : {J O : Type 0} → Pad J O → List J → Pad J O
with_passed pad first = record pad { waiting = pad.waiting ++ first; spare = pad.spare - 1 }

abbrev pub after_passed : {J O : Type 0} → Stage J O → Stage J O
after_passed (stage.Pad pad) = stage.Pad pad
after_passed (stage.Queue server) = stage.Queue server
after_passed (stage.Chain c) =
    stage.Chain (record {
      server = passed c.server (drop 1 c.server.queue.waiting);
      pad = with_passed c.pad (take 1 c.server.queue.waiting);
    })

-- the chain's pad has just what its queue passed on and didn't release
abbrev pub IsJoined : {J O : Type 0} → Server J O → Pad J O → Type 0
IsJoined server pad = (pad.collected + server.passed ≡ server.queue.served) × (server.passed ≡ length pad.outcomes + length pad.waiting)

abbrev pub IsLinked : {J O : Type 0} → Stage J O → Type 0
IsLinked (stage.Pad pad) = Unit {0}
IsLinked (stage.Queue server) = Unit {0}
IsLinked (stage.Chain c) = IsJoined c.server c.pad

-- a number whose job runs on a pad
abbrev pub Runs : {J O : Type 0} → Pad J O → ℕ → Type 0
Runs pad n = (pad.collected ≤ n) × (n < taken_of pad) × (slice_get pad.outcomes (n - pad.collected) ≡ Some None)

-- a queue's requests are served, and a chain's are passed on
abbrev pub IsApart : {J O : Type 0} → Stage J O → Type 0
IsApart (stage.Pad pad) = Unit {0}
IsApart (stage.Queue server) = server.passed ≡ 0
IsApart (stage.Chain c) = c.server.busy ≡ false

abbrev pub MayEnd : {J O : Type 0} → Stage J O → ℕ → Type 0
MayEnd (stage.Pad pad) n = Runs pad n
MayEnd (stage.Queue server) n = (server.busy ≡ true) × (n + 1 ≡ server.queue.served)
MayEnd (stage.Chain c) n = Runs c.pad n × IsJoined c.server c.pad

abbrev pub with_outcome : {J O : Type 0} → Pad J O → ℕ → O → Pad J O
with_outcome pad n out = record pad { outcomes = slice_set pad.outcomes (n - pad.collected) (Some out) }

-- what is ready leaves a chain's pad, and its queue tells it
abbrev pub released : {J O : Type 0} → Server J O → Pad J O → Server J O
released server pad =
    record server { passed = server.passed - length (ready pad.outcomes); pending = server.pending ++ done_from pad.collected (ready pad.outcomes) }

abbrev pub ended : {J O : Type 0} → Stage J O → ℕ → O → Stage J O
ended (stage.Pad pad) n out = stage.Pad (with_outcome pad n out)
ended (stage.Queue server) n out = stage.Queue (record server { busy = false; pending = server.pending ++ callback.Done n out ∷ [] })
ended (stage.Chain c) n out =
    stage.Chain (record { server = released c.server (with_outcome c.pad n out); pad = emptied (with_outcome c.pad n out) })

-- how many accepted requests are not finished, where on a chain what is finished out of order counts as well
abbrev pub unfinished_of : {J O : Type 0} → Stage J O → ℕ
unfinished_of (stage.Pad pad) = running_of pad.outcomes + length pad.waiting
unfinished_of (stage.Queue server) = length server.queue.waiting + (if server.busy then 1 else 0)
unfinished_of (stage.Chain c) = length c.server.queue.waiting + (running_of c.pad.outcomes + length c.pad.waiting)

-- the jobs that are ready to be run: on a chain those that its queue passed on
abbrev pub jobs_of : {J O : Type 0} → Stage J O → List J
jobs_of (stage.Pad pad) = pad.waiting
jobs_of (stage.Queue server) = server.queue.waiting
jobs_of (stage.Chain c) = c.pad.waiting

-- no job may be taken
abbrev pub IsQuiet : {J O : Type 0} → Stage J O → Type 0
IsQuiet (stage.Pad pad) = pad.waiting ≡ []
IsQuiet (stage.Queue server) = ServesNone server
IsQuiet (stage.Chain c) = c.pad.waiting ≡ []

-- a job may be taken
abbrev pub MayServe : {J O : Type 0} → Stage J O → Type 0
MayServe (stage.Pad pad) = 0 < length pad.waiting
MayServe (stage.Queue server) = (server.held ≡ false) × (server.busy ≡ false) × (0 < length server.queue.waiting)
MayServe (stage.Chain c) = 0 < length c.pad.waiting

-- a request of a chain's queue may go on to its pad
abbrev pub MayPass : {J O : Type 0} → Stage J O → Type 0
MayPass (stage.Pad pad) = ⊥
MayPass (stage.Queue server) = ⊥
MayPass (stage.Chain c) = (c.server.held ≡ false) × (c.server.busy ≡ false) × (0 < length c.server.queue.waiting)

-- no request may
abbrev pub PassesNone : {J O : Type 0} → Stage J O → Type 0
PassesNone (stage.Pad pad) = Unit {0}
PassesNone (stage.Queue server) = Unit {0}
PassesNone (stage.Chain c) = ServesNone c.server

-- the number of the first request in a chain's queue, and the number that leaves the backlog where it goes on
abbrev pub next_in_queue : {J O : Type 0} → Stage J O → ℕ
next_in_queue (stage.Pad pad) = 0
next_in_queue (stage.Queue server) = server.queue.served
next_in_queue (stage.Chain c) = c.server.queue.served

abbrev pub starts_at : {J O : Type 0} → Stage J O → Option ℕ
starts_at (stage.Pad pad) = None
starts_at (stage.Queue server) = number_at_bound server.queue
starts_at (stage.Chain c) = number_at_bound c.server.queue

-- the number of the first of these jobs
abbrev pub next_of : {J O : Type 0} → Stage J O → ℕ
next_of (stage.Pad pad) = taken_of pad
next_of (stage.Queue server) = server.queue.served
next_of (stage.Chain c) = taken_of c.pad

-- the number that leaves the backlog where it is taken
abbrev pub started_by : {J O : Type 0} → Stage J O → Option ℕ
started_by (stage.Pad pad) = None
started_by (stage.Queue server) = number_at_bound server.queue
started_by (stage.Chain c) = None

-- after the first of them was taken, and these are left
abbrev pub without_first : {J O : Type 0} → Stage J O → List J → Stage J O
without_first (stage.Pad pad) rest = stage.Pad (with_taken pad rest)
without_first (stage.Queue server) rest =
    stage.Queue (record server {
      queue = record server.queue { served = server.queue.served + 1; waiting = rest };
      busy = true;
      pending = server.pending ++ started_callback (number_at_bound server.queue);
    })
without_first (stage.Chain c) rest = stage.Chain (record c { pad = with_taken c.pad rest })

abbrev pub with_job : {J O : Type 0} → Stage J O → J → Stage J O
with_job (stage.Pad pad) job = stage.Pad (record pad { waiting = pad.waiting ++ job ∷ [] })
with_job (stage.Queue server) job = stage.Queue server
with_job (stage.Chain c) job = stage.Chain c

abbrev pub holding : {J O : Type 0} → Stage J O → Bool → Stage J O
holding (stage.Pad pad) held = stage.Pad pad
holding (stage.Queue server) held = stage.Queue (record server { held = held })
holding (stage.Chain c) held = stage.Chain (record c { server = record c.server { held = held } })

-- what was told and not collected
abbrev pub callbacks_of : {J O : Type 0} → Stage J O → List (Callback O)
callbacks_of (stage.Pad pad) = done_from pad.collected (ready pad.outcomes)
callbacks_of (stage.Queue server) = server.pending
callbacks_of (stage.Chain c) = c.server.pending

-- after it was collected
abbrev pub collected_from : {J O : Type 0} → Stage J O → Stage J O
collected_from (stage.Pad pad) = stage.Pad (emptied pad)
collected_from (stage.Queue server) = stage.Queue (record server { pending = [] })
collected_from (stage.Chain c) = stage.Chain (record c { server = record c.server { pending = [] } })

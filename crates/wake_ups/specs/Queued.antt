-- The wake-ups of a board on which a queue or a chain was made: there a job may come to be ready that nobody counts.
use Rattle.std.specs.Prelude.{◌≡◌, ℕ, ◌+◌, ◌-◌, ◌<◌, List, [], ◌∷◌}
use Rattle.wake_ups.specs.Wakeups.{Wakeups, Step, May, after, start}
use Rattle.wake_ups.specs.Wakeups.Step.{Help, Help_on, End_and_take, Look_and_take, Last_take, Last_take_rung}
use Rattle.wake_ups.specs.Laws.{NobodyIsBetween, SleepsOn, looks_and_notifies}

pub record Queued : Type 0 where
  pub wakeups : Wakeups
  pub next : ℕ  -- took or finished a job, and will read how many are awake

pub data QueuedStep : Type 0 where
  Of : Step → QueuedStep
  Ready : QueuedStep  -- a job is finished, and with that another is ready
  Leave_next : QueuedStep  -- some are awake
  Notify_next : QueuedStep  -- none is

-- how many it takes
abbrev pub takes : Step → ℕ
takes Help = 1
takes (Help_on read) = 1
takes (End_and_take read) = 1
takes Look_and_take = 1
takes Last_take = 1
takes Last_take_rung = 1
takes s = 0

abbrev pub MayQueued : Queued → QueuedStep → Type 0
MayQueued q (Of s) = May q.wakeups s
MayQueued q Ready = Unit {0}
MayQueued q Leave_next = (0 < q.next) × (0 < q.wakeups.awake)
MayQueued q Notify_next = (0 < q.next) × (q.wakeups.awake ≡ 0)

abbrev pub then : Queued → QueuedStep → Queued
then q (Of s) = record { wakeups = after q.wakeups s; next = q.next + takes s }
then q Ready = record { wakeups = record (q.wakeups) { jobs = q.wakeups.jobs + 1 }; next = q.next + 1 }
then q Leave_next = record { wakeups = q.wakeups; next = q.next - 1 }
then q Notify_next = record { wakeups = record (q.wakeups) { notifying = q.wakeups.notifying + 1 }; next = q.next - 1 }

abbrev pub RunQueued : Queued → List QueuedStep → Queued → Type 0
RunQueued q [] r = r ≡ q
RunQueued q (s ∷ ss) r = MayQueued q s × RunQueued (then q s) ss r

abbrev pub start_queued : ℕ → Queued
start_queued n = record { wakeups = start n; next = 0 }

-- where a job waits and nobody is between two steps, each of the workers runs one
abbrev pub AllRunQueued : ℕ → List QueuedStep → Queued → Type 0
AllRunQueued n steps q = RunQueued (start_queued n) steps q → NobodyIsBetween q.wakeups → q.next ≡ 0 → 0 < q.wakeups.jobs → q.wakeups.running ≡ n

-- while a worker sleeps on and a job waits, a look or a notification is to come
abbrev pub SomeLookComes : ℕ → List QueuedStep → Queued → Type 0
SomeLookComes n steps q = RunQueued (start_queued n) steps q → SleepsOn q.wakeups → 0 < q.wakeups.jobs → 0 < looks_and_notifies q.wakeups + q.next

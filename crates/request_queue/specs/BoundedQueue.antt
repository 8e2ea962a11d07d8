use Rattle.std.specs.Prelude.{ℕ, ◌+◌, ◌-◌, Bool, nat_lt, if◌then◌else◌, List, [], ◌∷◌, ◌++◌, length, Option, Some, None}
use Rattle.request_queue.specs.declared.Verdict.{Verdict}
use Rattle.request_queue.specs.declared.Verdict.TheVariants.{InProgress, Busy, NoSpace}

-- Items are numbered from 0 as they are accepted. The numbers below `served` have left; the first that waits has the
-- number `served`.
pub record BoundedQueue (T : Type 0) : Type 0 where
  pub max : ℕ
  pub served : ℕ
  pub waiting : List T
  pub spare : ℕ

-- how many were accepted
abbrev pub accepted : {T : Type 0} → BoundedQueue T → ℕ
accepted queue = queue.served + length queue.waiting

-- below the bound an item is accepted; past it only with leave to wait
abbrev pub verdict_on : {T : Type 0} → ℕ → ℕ → Bool → T → Verdict T
verdict_on waiting max backlog item = if nat_lt waiting max then InProgress else (if backlog then Busy else NoSpace item)

abbrev pub queue_after : {T : Type 0} → BoundedQueue T → T → Verdict T → BoundedQueue T
queue_after queue item InProgress = record queue { waiting = queue.waiting ++ item ∷ []; spare = queue.spare - 1 }
queue_after queue item Busy = record queue { waiting = queue.waiting ++ item ∷ []; spare = queue.spare - 1 }
queue_after queue item (NoSpace back) = queue

-- the number at place max, if somebody stands there
abbrev pub number_at_bound : {T : Type 0} → BoundedQueue T → Option ℕ
number_at_bound queue = if nat_lt queue.max (length queue.waiting) then Some (queue.served + queue.max) else None

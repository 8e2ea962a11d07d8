-- The run queues of a board's callers: one of all queues, for everybody, and one of pads and chains for each caller
-- that may take from any.
use Rattle.std.specs.Prelude.{◌≡◌, ℕ, Bool, false, List, Option, Some, None, slice_get}
use Rattle.std.specs.Ordering.{nat_cmp}
use Rattle.std.specs.Map.{lookup}
use Rattle.std.specs.BTreeMap.{is_at}
use Rattle.board.specs.declared.pipeline.Pipeline.{Pipeline}
use Rattle.board.specs.declared.run_queues.CallerQueue.{CallerQueue}
use Rattle.board.specs.Entries.{IsMasked}
use Rattle.board.specs.Places.{Places}
use Rattle.board.specs.RunQueue.{QueueState, IsMember, IsQueued, no_pipelines, HasJob, IsQueue, IsNoQueue, IsFor, IsReadyFor, KeepsOthers, IsTold}

-- the callers' own run queues: of the first ones each at its caller's number, and of others each beside its caller
pub record CallerQueues : Type 0 where
  pub first : List CallerQueue
  pub others : List (ℕ × CallerQueue)

-- the queues' run queue, and these
pub record QueuesState : Type 0 where
  pub queues : QueueState
  pub own : CallerQueues

abbrev pub queue_in : Option CallerQueue → QueueState
queue_in None = no_pipelines
queue_in (Some own) = own.queue

abbrev pub queue_or : Option CallerQueue → QueueState → QueueState
queue_or None other = other
queue_or (Some own) other = own.queue

-- the caller's own run queue, which has no members where it was given none
abbrev pub queue_for : ℕ → CallerQueues → QueueState
queue_for caller own = queue_or (slice_get own.first caller) (queue_in (lookup (is_at (nat_cmp caller)) own.others))

-- each caller's own run queue became such another
abbrev pub AreMade : (QueueState → QueueState → Type 0) → CallerQueues → CallerQueues → Type 0
AreMade made own after = (caller : ℕ) → made (queue_for caller own) (queue_for caller after)

-- and so did the queues'
abbrev pub IsMade : (QueueState → QueueState → Type 0) → QueuesState → QueuesState → Type 0
IsMade made run_queues after = made run_queues.queues after.queues × AreMade made run_queues.own after.own

-- the pipeline is a member where it belongs: a queue of the queues' run queue, and another of the run queues of its
-- maker and its workers
pub record Joins {J O : Type 0} (pipe : ℕ) (new : Pipeline J O) (run_queues : QueuesState) : Type 0 where
  pub queue : IsQueue new → IsMember run_queues.queues pipe
  pub maker : IsNoQueue new → IsMember (queue_for new.maker run_queues.own) pipe
  pub workers : IsNoQueue new → (worker : ℕ) → IsMasked new.mask worker → IsMember (queue_for worker run_queues.own) pipe

-- the run queues are told of a pipeline: of a queue that of the queues, and of another those of the callers that may
-- take from it
pub record AreTold {J O : Type 0} (pipe : ℕ) (place : Pipeline J O) (was is : Bool) (run_queues after : QueuesState) : Type 0 where
  pub queues : IsTold (IsQueue place) pipe was is run_queues.queues after.queues
  pub own : (caller : ℕ) → IsTold (IsFor caller place) pipe was is (queue_for caller run_queues.own) (queue_for caller after.own)

-- such callers' own run queues are told of a pipeline
pub record OwnAreTold (such : ℕ → Type 0) (pipe : ℕ) (is : Bool) (run_queues after : QueuesState) : Type 0 where
  pub queues : after.queues ≡ run_queues.queues
  pub own : (caller : ℕ) → IsTold (such caller) pipe false is (queue_for caller run_queues.own) (queue_for caller after.own)

-- a pipeline left the run queues of some callers that may not take from it
pub record LetsGo {J O : Type 0} (pipe : ℕ) (place : Pipeline J O) (run_queues after : QueuesState) : Type 0 where
  pub queues : after.queues ≡ run_queues.queues
  pub others : (caller : ℕ) → KeepsOthers pipe (queue_for caller run_queues.own) (queue_for caller after.own)
  pub admitted : (caller : ℕ) → IsFor caller place → queue_for caller after.own ≡ queue_for caller run_queues.own

-- a run queue after a pipeline was given another mask: it stays a member of those that it admits, queued where it has a
-- job
pub record IsReadmitted {J O : Type 0} (pipe : ℕ) (new : Pipeline J O) (caller : ℕ) (queue after : QueueState) : Type 0 where
  pub others : KeepsOthers pipe queue after
  pub member : IsFor caller new → IsMember queue pipe → IsMember after pipe
  pub queued : IsFor caller new → HasJob new → IsMember queue pipe → IsQueued after pipe

-- in each run queue stands what it is for
pub record AreReady {J O : Type 0} (pipes : Places (Pipeline J O)) (run_queues : QueuesState) : Type 0 where
  pub queues : IsReadyFor IsQueue HasJob pipes run_queues.queues
  pub own : (caller : ℕ) → IsReadyFor (IsFor caller) HasJob pipes (queue_for caller run_queues.own)

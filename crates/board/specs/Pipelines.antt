-- What the calls on one pipeline leave of it.
use Rattle.std.specs.Prelude.{◌≡◌, ◌≢◌, ℕ, if◌then◌else◌, Bool, true, false, ◌==◌, nat_lt, ◌&&◌, ◌||◌, length}
use Rattle.cryptd.specs.Server.{Server}
use Rattle.board.specs.declared.entry.Entered.{Entered}
use Rattle.board.specs.declared.entry.Entered.TheVariants.{InProgress, Busy, NoSpace}
use Rattle.board.specs.declared.pipeline.Pipeline.{Pipeline}
use Rattle.board.specs.declared.stage.Stage.{Stage}
use Rattle.board.specs.declared.stage.Stage.TheVariants as stage
use Rattle.board.specs.Entries.{has}
use Rattle.board.specs.Stages.{without_room}
use Rattle.board.specs.RunQueue.{IsNoQueue}

-- all but the room that is kept for more requests is the same
pub record IsSame {J O : Type 0} (old new : Pipeline J O) : Type 0 where
  pub maker : new.maker ≡ old.maker
  pub shared : new.shared ≡ old.shared
  pub mask : new.mask ≡ old.mask
  pub submitters : new.submitters.items ≡ old.submitters.items
  pub collected : new.collected ≡ old.collected
  pub stage : without_room new.stage ≡ without_room old.stage

-- where the caller's request is accepted, it is noted among those who submitted, unless it made the pipeline; of a
-- queue, which everybody serves, that is no matter
pub record NotesCaller {J O : Type 0} (old new : Pipeline J O) (caller : ℕ) (accepted : Bool) : Type 0 where
  pub maker : new.maker ≡ old.maker
  pub shared : new.shared ≡ old.shared
  pub mask : new.mask ≡ old.mask
  pub collected : new.collected ≡ old.collected
  pub submitters : IsNoQueue old → (c : ℕ) → c ≢ old.maker → has c new.submitters.items ≡ (has c old.submitters.items || (accepted && caller == c))

-- whether a queue accepts
abbrev pub is_accepted : Entered → Bool
is_accepted (InProgress number) = true
is_accepted (Busy number) = true
is_accepted NoSpace = false

-- a queue accepts below its bound, and past it who may wait in the backlog
abbrev pub server_accepts : {J O : Type 0} → Server J O → Bool → Bool
server_accepts server backlog = nat_lt (length server.queue.waiting) server.queue.max || backlog

abbrev pub accepts : {J O : Type 0} → Stage J O → Bool → Bool
accepts (stage.Pad pad) backlog = false
accepts (stage.Queue server) backlog = server_accepts server backlog
accepts (stage.Chain c) backlog = server_accepts c.server backlog

-- how many entries of work follow on a request: on a chain it is passed on, taken and finished
abbrev pub work_each : {J O : Type 0} → Stage J O → ℕ
work_each (stage.Pad pad) = 2
work_each (stage.Queue server) = 2
work_each (stage.Chain c) = 3

-- on an answer to it, where it is accepted
abbrev pub work_after : {J O : Type 0} → Stage J O → Entered → ℕ
work_after s answer = if is_accepted answer then work_each s else 0

-- a pad of so many reorder lists
abbrev pub with_lists : {J O : Type 0} → Stage J O → ℕ → Stage J O
with_lists (stage.Pad pad) lists = stage.Pad (record pad { lists = lists })
with_lists (stage.Queue server) lists = stage.Queue server
with_lists (stage.Chain c) lists = stage.Chain c

-- What the checker keeps of a board's pipelines, and what it reads off that.
use Rattle.std.specs.Prelude.{◌≡◌, ℕ, suc, ◌+◌, ◌-◌, ◌<◌, ◌≤◌, ◌^◌, Bool, true, false, not, ◌&&◌, ◌||◌, ◌==◌, nat_lt, nat_le, if◌then◌else◌, List, [], ◌∷◌, ◌++◌, length, drop, slice_get, slice_set, Option, Some, None}
use Rattle.std.specs.Option.{option_map_or}
use Rattle.std.specs.List.{list_any}
use Rattle.std.specs.Int.{bit_at}
use Rattle.std.specs.Ordering.{nat_cmp}
use Rattle.std.specs.BTreeMap.{is_at}
use Rattle.std.specs.BTreeSet.{insert_key}
use Rattle.alg_registry.specs.Legal.{is_worker}
use Rattle.board.specs.declared.entry.Shape.{Shape}
use Rattle.board.specs.declared.entry.Shape.TheVariants.{Pad, Queue, Chain}
use Rattle.board.specs.Shapes.{is_pad, has_queue, has_lists, is_serial, bound_of, lists_of}
use Rattle.board.specs.declared.entry.Entered.{Entered}
use Rattle.board.specs.declared.entry.Entered.TheVariants.{InProgress, Busy, NoSpace}
use Rattle.board.specs.declared.entry.BoardEntry.{BoardEntry}
use Rattle.board.specs.declared.entry.BoardEntry.TheVariants.{Born, Submit, Take, Finish, Enq, Deq, Done, Hold, Go, Collect, Close, Share, Mask, Shut}
use Rattle.trace_check.specs.declared.pipe.Progress.{Progress}
use Rattle.trace_check.specs.declared.pipe.Progress.TheVariants.{Waits, Runs, Ended}
use Rattle.trace_check.specs.declared.pipe.Pipeline.{Pipeline}
use Rattle.trace_check.specs.declared.reason.Reason.{Reason}
use Rattle.trace_check.specs.declared.reason.Reason.TheVariants.{State, Caller, Number, Answer}

-- a pipeline without where it lies in memory
pub record PipeState : Type 0 where
  pub maker : ℕ
  pub shape : Shape
  pub requests : List Progress
  pub submitters : List ℕ
  pub dequeued : ℕ
  pub finished : ℕ
  pub front : ℕ
  pub told : ℕ
  pub collected : ℕ
  pub mask : ℕ
  pub held : Bool
  pub shared : Bool
  pub closed : Bool

abbrev pub state_of : Pipeline → PipeState
state_of p = record {
  maker = p.maker;
  shape = p.shape;
  requests = p.requests.items;
  submitters = p.submitters.keys;
  dequeued = p.dequeued;
  finished = p.finished;
  front = p.front;
  told = p.told;
  collected = p.collected;
  mask = p.mask;
  held = p.held;
  shared = p.shared;
  closed = p.closed;
}

-- the bits of so many workers
abbrev pub full_mask : ℕ → ℕ
full_mask lists = if nat_le lists 16 then 2 ^ lists - 1 else 0

abbrev pub new_pipe : ℕ → Shape → PipeState
new_pipe maker shape = record {
  maker = maker;
  shape = shape;
  requests = [];
  submitters = [];
  dequeued = 0;
  finished = 0;
  front = 0;
  told = 0;
  collected = 0;
  mask = full_mask (lists_of shape);
  held = false;
  shared = false;
  closed = false;
}

-- a pipeline may be made so
abbrev pub are_lists : ℕ → Bool
are_lists lists = nat_le 1 lists && nat_le lists 16

abbrev pub is_shape : Shape → Bool
is_shape (Pad lists) = are_lists lists
is_shape (Queue max) = nat_le 1 max
is_shape (Chain max lists) = nat_le 1 max && are_lists lists

-- it is open, and of such a shape
abbrev pub is_open_as : (Shape → Bool) → PipeState → Bool
is_open_as such s = such s.shape && not s.closed

abbrev pub waits : Progress → Bool
waits Waits = true
waits _ = false

abbrev pub runs : Progress → Bool
runs (Runs caller) = true
runs _ = false

abbrev pub runs_by : ℕ → Progress → Bool
runs_by caller (Runs taker) = taker == caller
runs_by caller _ = false

abbrev pub has_ended : Progress → Bool
has_ended Ended = true
has_ended _ = false

-- the request of the number passes the test
abbrev pub passes : (Progress → Bool) → PipeState → ℕ → Bool
passes test s number = option_map_or test (slice_get s.requests number) false

-- how many wait in line
abbrev pub backlog_of : PipeState → ℕ
backlog_of s = length s.requests - s.dequeued

-- how many are past the line
abbrev pub passed_by : PipeState → ℕ
passed_by s = if has_queue s.shape then s.dequeued else length s.requests

abbrev pub starts_by : PipeState → ℕ → Option ℕ
starts_by s number = if nat_lt (number + bound_of s.shape) (length s.requests) then Some (number + bound_of s.shape) else None

abbrev pub may_serve : PipeState → Bool
may_serve s = not s.held && ((not (is_serial s.shape) || s.finished == s.dequeued) && nat_lt 0 (backlog_of s))

abbrev pub may_close : PipeState → Bool
may_close s = not s.shared && (s.front == length s.requests && (s.collected == s.told))

abbrev pub may_manage : PipeState → ℕ → Bool
may_manage s caller = not (is_worker caller) && (s.maker == caller)

abbrev pub may_submit : PipeState → ℕ → Bool
may_submit s caller = not (is_worker caller) && (s.maker == caller || s.shared)

abbrev pub has_submitted : List ℕ → ℕ → Bool
has_submitted submitters caller = list_any (is_at (nat_cmp caller)) submitters

-- bit i stands for caller i + 1
abbrev pub is_masked : ℕ → ℕ → Bool
is_masked mask caller = is_worker caller && (bit_at mask (caller - 1) == 1)

-- who made the pipeline, who submitted to it, and the workers in its mask
abbrev pub may_take : PipeState → ℕ → Bool
may_take s caller = s.maker == caller || (has_submitted s.submitters caller || is_masked s.mask caller)

-- no bit stands at or above the lists
abbrev pub has_bits : ℕ → ℕ → Bool
has_bits lists mask = nat_le lists 16 && nat_lt mask (2 ^ lists)

abbrev pub same_number : Option ℕ → Option ℕ → Bool
same_number None None = true
same_number (Some m) (Some n) = m == n
same_number _ _ = false

-- The four parts of what an event of this pipeline needs.
abbrev pub has_state : {A : Type 0} → PipeState → BoardEntry A → Bool
has_state s (Born caller pipe shape) = false
has_state s (Submit caller pipe number ask) = is_open_as is_pad s && nat_lt 0 s.mask
has_state s (Take caller pipe number) = is_open_as has_lists s && (nat_lt number (passed_by s) && passes waits s number)
has_state s (Finish caller pipe number) = has_lists s.shape && passes runs s number
has_state s (Enq caller pipe ask backlog answer) = is_open_as has_queue s
has_state s (Deq caller pipe number started) = is_open_as has_queue s && may_serve s
has_state s (Done caller pipe number) = is_serial s.shape && passes runs s number
has_state s (Hold caller pipe) = is_open_as has_queue s
has_state s (Go caller pipe) = is_open_as has_queue s
has_state s (Collect caller pipe to) = not s.closed
has_state s (Close caller pipe) = not s.closed && may_close s
has_state s (Share caller pipe) = not s.closed
has_state s (Mask caller pipe mask) = is_open_as is_pad s && not s.shared
has_state s (Shut caller) = false

abbrev pub has_caller : {A : Type 0} → PipeState → BoardEntry A → Bool
has_caller s (Submit caller pipe number ask) = may_submit s caller
has_caller s (Take caller pipe number) = may_take s caller
has_caller s (Finish caller pipe number) = passes (runs_by caller) s number
has_caller s (Enq caller pipe ask backlog answer) = may_submit s caller
has_caller s (Done caller pipe number) = passes (runs_by caller) s number
has_caller s (Hold caller pipe) = may_manage s caller
has_caller s (Go caller pipe) = may_manage s caller
has_caller s (Collect caller pipe to) = may_manage s caller
has_caller s (Close caller pipe) = may_manage s caller
has_caller s (Share caller pipe) = may_manage s caller
has_caller s (Mask caller pipe mask) = may_manage s caller
has_caller s _ = true

abbrev pub is_numbered : PipeState → Entered → Bool
is_numbered s (InProgress number) = number == length s.requests
is_numbered s (Busy number) = number == length s.requests
is_numbered s NoSpace = true

abbrev pub has_number : {A : Type 0} → PipeState → BoardEntry A → Bool
has_number s (Submit caller pipe number ask) = number == length s.requests
has_number s (Enq caller pipe ask backlog answer) = is_numbered s answer
has_number s (Deq caller pipe number started) = number == s.dequeued && same_number started (starts_by s number)
has_number s (Collect caller pipe to) = to == s.told
has_number s (Mask caller pipe mask) = has_bits (lists_of s.shape) mask
has_number s _ = true

-- the queue answers with this word
abbrev pub is_answered : PipeState → Bool → Entered → Bool
is_answered s backlog (InProgress number) = nat_lt (backlog_of s) (bound_of s.shape)
is_answered s backlog (Busy number) = not (nat_lt (backlog_of s) (bound_of s.shape)) && backlog
is_answered s backlog NoSpace = not (nat_lt (backlog_of s) (bound_of s.shape)) && not backlog

abbrev pub has_answer : {A : Type 0} → PipeState → BoardEntry A → Bool
has_answer s (Enq caller pipe ask backlog answer) = is_answered s backlog answer
has_answer s _ = true

abbrev pub reason_of : Bool → Bool → Bool → Bool → Option Reason
reason_of state caller number answer =
    if not state then Some State else (if not caller then Some Caller else (if not number then Some Number else (if not answer then Some Answer else None)))

abbrev pub judged_on : {A : Type 0} → PipeState → BoardEntry A → Option Reason
judged_on s e = reason_of (has_state s e) (has_caller s e) (has_number s e) (has_answer s e)

abbrev pub judged_at : {A : Type 0} → Option PipeState → BoardEntry A → Option Reason
judged_at None e = Some State
judged_at (Some s) e = judged_on s e

abbrev pub pipe_of : {A : Type 0} → BoardEntry A → ℕ
pipe_of (Born caller pipe shape) = pipe
pipe_of (Submit caller pipe number ask) = pipe
pipe_of (Take caller pipe number) = pipe
pipe_of (Finish caller pipe number) = pipe
pipe_of (Enq caller pipe ask backlog answer) = pipe
pipe_of (Deq caller pipe number started) = pipe
pipe_of (Done caller pipe number) = pipe
pipe_of (Hold caller pipe) = pipe
pipe_of (Go caller pipe) = pipe
pipe_of (Collect caller pipe to) = pipe
pipe_of (Close caller pipe) = pipe
pipe_of (Share caller pipe) = pipe
pipe_of (Mask caller pipe mask) = pipe
pipe_of (Shut caller) = 0

-- the first reason against an event, where there is one
abbrev pub judged : {A : Type 0} → List PipeState → Bool → BoardEntry A → Option Reason
judged ps shut (Born caller pipe shape) = reason_of true (not (is_worker caller)) (pipe == length ps && is_shape shape) true
judged ps shut (Shut caller) = reason_of (not shut) (caller == 0) true true
judged ps shut e = judged_at (slice_get ps (pipe_of e)) e

-- how many requests from here on are finished without a gap
abbrev pub ended_run : List Progress → ℕ
ended_run [] = 0
ended_run (p ∷ ps) = if has_ended p then suc (ended_run ps) else 0

abbrev pub front_moved : PipeState → PipeState
front_moved s = record s { front = s.front + ended_run (drop s.front s.requests) }

abbrev pub with_request : PipeState → ℕ → PipeState
with_request s caller = record s { requests = s.requests ++ Waits ∷ []; submitters = insert_key nat_cmp s.submitters caller }

abbrev pub with_taken : PipeState → ℕ → ℕ → PipeState
with_taken s number caller = record s { requests = slice_set s.requests number (Runs caller) }

abbrev pub with_ended : PipeState → ℕ → PipeState
with_ended s number = front_moved (record s { requests = slice_set s.requests number Ended; finished = s.finished + 1 })

abbrev pub notices_in : Option ℕ → ℕ
notices_in (Some number) = 1
notices_in None = 0

-- what leaves a queue runs, and what leaves a chain's line waits on its pad
abbrev pub with_dequeued : PipeState → ℕ → ℕ → Option ℕ → PipeState
with_dequeued s number caller started = record s {
  requests = if is_serial s.shape then slice_set s.requests number (Runs caller) else s.requests;
  dequeued = s.dequeued + 1;
  told = s.told + notices_in started;
}

-- a pad tells what the front passes
abbrev pub with_finished : PipeState → ℕ → PipeState
with_finished s number = record (with_ended s number) { told = s.told + ((with_ended s number).front - s.front) }

abbrev pub with_done : PipeState → ℕ → PipeState
with_done s number = record (with_ended s number) { told = s.told + 1 }

abbrev pub with_entered : PipeState → ℕ → Entered → PipeState
with_entered s caller NoSpace = s
with_entered s caller _ = with_request s caller

-- its counts are within 64 bits, and its front is within its requests
pub record CanCount (s : PipeState) : Type 0 where
  pub dequeued : s.dequeued + 1 < 2 ^ 64
  pub finished : s.finished + 1 < 2 ^ 64
  pub told : s.told + (length s.requests - s.front) + 1 < 2 ^ 64
  pub front : s.front ≤ length s.requests

abbrev pub AllCanCount : List PipeState → Type 0
AllCanCount ps = (p : ℕ) (s : PipeState) → slice_get ps p ≡ Some s → CanCount s

-- the pipeline after a right event of it
abbrev pub after : {A : Type 0} → PipeState → BoardEntry A → PipeState
after s (Submit caller pipe number ask) = with_request s caller
after s (Take caller pipe number) = with_taken s number caller
after s (Finish caller pipe number) = with_finished s number
after s (Enq caller pipe ask backlog answer) = with_entered s caller answer
after s (Deq caller pipe number started) = with_dequeued s number caller started
after s (Done caller pipe number) = with_done s number
after s (Hold caller pipe) = record s { held = true }
after s (Go caller pipe) = record s { held = false }
after s (Collect caller pipe to) = record s { collected = to }
after s (Close caller pipe) = record s { closed = true }
after s (Share caller pipe) = record s { shared = true }
after s (Mask caller pipe mask) = record s { mask = mask }
after s _ = s

abbrev pub is_shut_by : {A : Type 0} → Bool → BoardEntry A → Bool
is_shut_by shut (Shut caller) = true
is_shut_by shut _ = shut

abbrev pub after_at : {A : Type 0} → List PipeState → BoardEntry A → Option PipeState → List PipeState
after_at ps e None = ps
after_at ps e (Some s) = slice_set ps (pipe_of e) (after s e)

-- the pipelines after a right event
abbrev pub pipes_after : {A : Type 0} → List PipeState → BoardEntry A → List PipeState
pipes_after ps (Born caller pipe shape) = ps ++ new_pipe caller shape ∷ []
pipes_after ps (Shut caller) = ps
pipes_after ps e = after_at ps e (slice_get ps (pipe_of e))

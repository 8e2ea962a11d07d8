-- The pipelines of a script that is alone: no one works beside it, so a request is done when it is drained.
use Rattle.std.specs.Prelude.{ℕ, ◌+◌, Bool, true, false, not, ◌&&◌, ◌||◌, nat_lt, if◌then◌else◌, List, [], ◌∷◌, ◌++◌, length, set, slice_get, Option, Some, None}
use Rattle.std.specs.Option.{option_map_or}
use Rattle.board.specs.declared.entry.Entered.{Entered}
use Rattle.board.specs.declared.entry.Entered.TheVariants.{InProgress, Busy, NoSpace}
use Rattle.board.specs.declared.entry.Shape.{Shape}
use Rattle.board.specs.Shapes.{is_chain}
use Rattle.transforms.specs.Finish.{finished_of}
use Rattle.dialogues.specs.AllocAndFree.{bound_of}
use Rattle.dialogues.specs.BoardCalls.{Asked, origin_by, Notice, Started, Completed, BoardCall, Creates, Submits, Enqueues, Holds, Goes, Collects, Closes, Shares, Masks, Shuts}
use Rattle.dialogues.specs.Questions.{BoardQuestion, BoardAnswer, Create, Submit, Enqueue, Hold, Go, Poll, Drain, Close, Share, Mask, Shut}
use Rattle.dialogues.specs.RequestCommands.{value_of}

-- How many requests may wait in a queue before it is full, none for a pad; whether its requests go on to a pad behind
-- the queue; how many of the requests that it accepted were handed out; those that weren't, the oldest first; and
-- whether it has been held without a break since before the oldest of them came.
pub record Pipeline : Type 0 where
  pub bound : Option ℕ
  pub chained : Bool
  pub delivered : ℕ
  pub undelivered : List Asked
  pub held_throughout : Bool

abbrev pub new_pipeline : Shape → Pipeline
new_pipeline shape = record { bound = bound_of shape; chained = is_chain shape; delivered = 0; undelivered = []; held_throughout = false }

-- ---- requests

-- the number of the next request
abbrev pub next_number : Pipeline → ℕ
next_number pipeline = pipeline.delivered + length pipeline.undelivered

-- what a queue answers to the request of this number that finds so many undelivered
abbrev pub verdict_at : ℕ → ℕ → Bool → Option ℕ → Entered
verdict_at number count backlog (Some max) =
    if nat_lt count max then InProgress number else (if backlog then Busy number else NoSpace)
verdict_at number count backlog None = NoSpace

abbrev pub verdict_of : Bool → Pipeline → Entered
verdict_of backlog pipeline = verdict_at (next_number pipeline) (length pipeline.undelivered) backlog pipeline.bound

-- What a queue answers depends on time, unless it takes more than are undelivered, or is held since before the oldest
-- of them came. On a chain no request may go into the backlog then: what it tells first, that it started or
-- completions, depends on time.
abbrev pub has_room : Bool → Pipeline → Bool
has_room backlog pipeline =
    (pipeline.held_throughout && not (pipeline.chained && backlog))
    || option_map_or (λ max. nat_lt (length pipeline.undelivered) max) pipeline.bound true

-- ---- drains

abbrev pub started_of : Option Asked → List Notice
started_of (Some asked) = Started (origin_by asked) ∷ []
started_of None = []

-- the request so many places behind the first of these has started, if there is one
abbrev pub started_in : Option ℕ → List Asked → List Notice
started_in (Some max) asks = started_of (slice_get asks max)
started_in None asks = []

-- of each request in turn: who has started then, and its completion
abbrev pub drained : Option ℕ → List Asked → List Notice
drained bound [] = []
drained bound (asked ∷ later) = started_in bound (asked ∷ later) ++ Completed (origin_by asked) (finished_of (value_of asked)) ∷ drained bound later

abbrev pub drained_from : Pipeline → List Notice
drained_from pipeline = drained pipeline.bound pipeline.undelivered

-- ---- what a script is answered

-- No answer of a poll stands here: a settled script has none.
abbrev pub reply_in : List Pipeline → (question : BoardQuestion) → BoardAnswer question
reply_in pipelines (Create shape) = length pipelines
reply_in pipelines (Submit pipe asked) = option_map_or next_number (slice_get pipelines pipe) 0
reply_in pipelines (Enqueue pipe asked backlog) = option_map_or (verdict_of backlog) (slice_get pipelines pipe) NoSpace
reply_in pipelines (Hold pipe) = tt
reply_in pipelines (Go pipe) = tt
reply_in pipelines (Poll pipe) = record { notices = []; all_done = false }
reply_in pipelines (Drain pipe) = option_map_or drained_from (slice_get pipelines pipe) []
reply_in pipelines (Close pipe) = tt
reply_in pipelines (Share pipe) = tt
reply_in pipelines (Mask pipe bits) = tt
reply_in pipelines Shut = tt

-- The answer doesn't depend on time.
abbrev pub is_timeless : List Pipeline → BoardQuestion → Bool
is_timeless pipelines (Enqueue pipe asked backlog) = option_map_or (has_room backlog) (slice_get pipelines pipe) true
is_timeless pipelines (Poll pipe) = false
is_timeless pipelines (Share pipe) = false
is_timeless pipelines _ = true

-- ---- what a call leaves

abbrev pub asked_more : Asked → Pipeline → Pipeline
asked_more asked pipeline = record pipeline { undelivered = pipeline.undelivered ++ asked ∷ [] }

abbrev pub is_all_delivered : List Asked → Bool
is_all_delivered [] = true
is_all_delivered (asked ∷ asks) = false

abbrev pub now_held : Pipeline → Pipeline
now_held pipeline = record pipeline { held_throughout = pipeline.held_throughout || is_all_delivered pipeline.undelivered }

abbrev pub let_go : Pipeline → Pipeline
let_go pipeline = record pipeline { held_throughout = false }

abbrev pub all_delivered : Pipeline → Pipeline
all_delivered pipeline = record pipeline { delivered = next_number pipeline; undelivered = [] }

abbrev pub at_pipe_by : (Pipeline → Pipeline) → ℕ → List Pipeline → Option Pipeline → List Pipeline
at_pipe_by change pipe pipelines (Some pipeline) = set pipelines pipe (change pipeline)
at_pipe_by change pipe pipelines None = pipelines

-- what the pipeline of the number becomes
abbrev pub at_pipe : (Pipeline → Pipeline) → ℕ → List Pipeline → List Pipeline
at_pipe change pipe pipelines = at_pipe_by change pipe pipelines (slice_get pipelines pipe)

-- the pipelines after a call
abbrev pub pipelines_after : List Pipeline → BoardCall → List Pipeline
pipelines_after pipelines (Creates pipe shape) = pipelines ++ new_pipeline shape ∷ []
pipelines_after pipelines (Submits pipe number asked) = at_pipe (asked_more asked) pipe pipelines
pipelines_after pipelines (Enqueues pipe asked backlog NoSpace) = pipelines
pipelines_after pipelines (Enqueues pipe asked backlog entered) = at_pipe (asked_more asked) pipe pipelines
pipelines_after pipelines (Holds pipe) = at_pipe now_held pipe pipelines
pipelines_after pipelines (Goes pipe) = at_pipe let_go pipe pipelines
pipelines_after pipelines (Collects pipe collected) = at_pipe all_delivered pipe pipelines
pipelines_after pipelines (Closes pipe) = pipelines
pipelines_after pipelines (Shares pipe) = pipelines
pipelines_after pipelines (Masks pipe mask) = pipelines
pipelines_after pipelines Shuts = pipelines

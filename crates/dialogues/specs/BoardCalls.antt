-- What one caller asked of the board, and what came of it: a history as a script sees it.
use Rattle.std.specs.Prelude.{ℕ, Bool, false, ◌==◌, List, [], ◌∷◌, ◌++◌, length, map, Option, Some, None, slice_get}
use Rattle.std.specs.Arc.{arc_value}
use Rattle.kc_base.specs.declared.callback_list.Callback.{Callback}
use Rattle.kc_base.specs.declared.callback_list.Callback.TheVariants as callback
use Rattle.board.specs.declared.entry.BoardEntry.{BoardEntry}
use Rattle.board.specs.declared.entry.BoardEntry.TheVariants as event
use Rattle.board.specs.declared.entry.Entered.{Entered}
use Rattle.board.specs.declared.entry.Shape.{Shape}
use Rattle.board.specs.Entries.{entries_of, submissions, front, delivered}
use Rattle.templates.specs.declared.driver_plans.Plan.{Plan}
use Rattle.transforms.specs.declared.ask.Ask.{Ask}
use Rattle.transforms.specs.declared.request.Finished.{Finished}
use Rattle.transforms.specs.declared.request.Request.{Request}
use Rattle.transforms.specs.AskValue.{ask_value}
use Rattle.transforms.specs.Finish.{finished_of}
use Rattle.reply_text.specs.declared.origin.Origin.{Origin}
use Rattle.dialogues.specs.RegistryCalls.{if_own, prepend}

-- what a request asks: what its transform computes, under which key and tag size, and of which line it is
pub record Asked : Type 0 where
  pub plan : Plan
  pub key : List ℕ
  pub tag_size : ℕ
  pub request : Request
  pub client : ℕ
  pub line : ℕ

abbrev pub asked_by : Ask → Asked
asked_by ask =
    record { plan = (arc_value ask.keyed).0; key = (arc_value ask.keyed).1; tag_size = ask.authsize; request = ask.request; client = ask.client; line = ask.line }

-- what a job gives: the value of its ask
abbrev pub outcome : Ask → Finished
outcome ask = finished_of (ask_value ask)

-- what is told of a request: that it has started, or how it ended
pub data Notice : Type 0 where
  Started : (of : Origin) → Notice
  Completed : (of : Origin) → (finished : Finished) → Notice

-- from which line of which client's script a request is
abbrev pub origin_by : Asked → Origin
origin_by asked = record { client = asked.client; line = asked.line }

abbrev pub origin_of : Ask → Origin
origin_of ask = origin_by (asked_by ask)

-- the request of this number
abbrev pub origin_in : Option Ask → Origin
origin_in (Some ask) = origin_of ask
origin_in None = record { client = 0; line = 0 }

abbrev pub notice_of : List Ask → Callback Finished → Notice
notice_of asks (callback.Started number) = Started (origin_in (slice_get asks number))
notice_of asks (callback.Done number finished) = Completed (origin_in (slice_get asks number)) finished

-- what a collect hands out, and whether each accepted request was done before it
pub record Collected : Type 0 where
  pub notices : List Notice
  pub all_done : Bool

-- what a collect up to a place comes to, after these entries of its pipeline
abbrev pub collected_to : List (BoardEntry Ask) → ℕ → Collected
collected_to es to = record { notices = map (notice_of (submissions es)) (delivered outcome es to); all_done = front es == length (submissions es) }

pub data BoardCall : Type 0 where
  Creates : (pipe : ℕ) → (shape : Shape) → BoardCall
  Submits : (pipe : ℕ) → (number : ℕ) → (asked : Asked) → BoardCall
  Enqueues : (pipe : ℕ) → (asked : Asked) → (backlog : Bool) → (answer : Entered) → BoardCall
  Holds : (pipe : ℕ) → BoardCall
  Goes : (pipe : ℕ) → BoardCall
  Collects : (pipe : ℕ) → (collected : Collected) → BoardCall
  Closes : (pipe : ℕ) → BoardCall
  Shares : (pipe : ℕ) → BoardCall
  Masks : (pipe : ℕ) → (mask : ℕ) → BoardCall
  Shuts : BoardCall

-- The call that an entry is, where it is one; `before` stands before the entry. To take jobs and to finish them is
-- work.
abbrev pub board_call_of : ℕ → List (BoardEntry Ask) → BoardEntry Ask → Option BoardCall
board_call_of caller before (event.Born by pipe shape) = if_own caller by (Creates pipe shape)
board_call_of caller before (event.Submit by pipe number ask) = if_own caller by (Submits pipe number (asked_by (arc_value ask)))
board_call_of caller before (event.Enq by pipe ask backlog answer) = if_own caller by (Enqueues pipe (asked_by (arc_value ask)) backlog answer)
board_call_of caller before (event.Hold by pipe) = if_own caller by (Holds pipe)
board_call_of caller before (event.Go by pipe) = if_own caller by (Goes pipe)
board_call_of caller before (event.Collect by pipe to) = if_own caller by (Collects pipe (collected_to (entries_of pipe before) to))
board_call_of caller before (event.Close by pipe) = if_own caller by (Closes pipe)
board_call_of caller before (event.Share by pipe) = if_own caller by (Shares pipe)
board_call_of caller before (event.Mask by pipe mask) = if_own caller by (Masks pipe mask)
board_call_of caller before (event.Shut by) = if_own caller by Shuts
board_call_of caller before (event.Take by pipe number) = None
board_call_of caller before (event.Finish by pipe number) = None
board_call_of caller before (event.Deq by pipe number started) = None
board_call_of caller before (event.Done by pipe number) = None

-- an entry that is a call of the caller's
abbrev pub is_called : ℕ → BoardEntry Ask → Bool
is_called caller (event.Born by pipe shape) = by == caller
is_called caller (event.Submit by pipe number ask) = by == caller
is_called caller (event.Enq by pipe ask backlog answer) = by == caller
is_called caller (event.Hold by pipe) = by == caller
is_called caller (event.Go by pipe) = by == caller
is_called caller (event.Collect by pipe to) = by == caller
is_called caller (event.Close by pipe) = by == caller
is_called caller (event.Share by pipe) = by == caller
is_called caller (event.Mask by pipe mask) = by == caller
is_called caller (event.Shut by) = by == caller
is_called caller _ = false

abbrev pub board_calls_from : ℕ → List (BoardEntry Ask) → List (BoardEntry Ask) → List BoardCall
board_calls_from caller before [] = []
board_calls_from caller before (next ∷ later) = prepend (board_call_of caller before next) (board_calls_from caller (before ++ next ∷ []) later)

-- the calls of the caller's script in a history, in order
unfoldable pub board_calls : ℕ → List (BoardEntry Ask) → List BoardCall
board_calls caller h = board_calls_from caller [] h

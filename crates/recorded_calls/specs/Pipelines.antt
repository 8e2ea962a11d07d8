-- What a caller knows of its pipelines on the board, and how it goes on.
use Rattle.std.specs.Prelude.{ℕ, ◌+◌, ◌≡◌, ◌≤◌, Bool, true, false, ◌==◌, List, [], ◌∷◌, ◌++◌, length, map, Option, Some, None, ⊤, slice_get, unwrap_or}
use Rattle.kc_base.specs.declared.callback_list.Callback.{Callback}
use Rattle.kc_base.specs.declared.callback_list.Callback.TheVariants as callback
use Rattle.board.specs.declared.entry.BoardEntry.{BoardEntry}
use Rattle.board.specs.declared.entry.BoardEntry.TheVariants.{Shut}
use Rattle.board.specs.declared.entry.Entered.{Entered}
use Rattle.board.specs.declared.entry.Shape.{Shape}
use Rattle.board.specs.declared.entry.Entered.TheVariants.{InProgress, Busy, NoSpace}
use Rattle.board.specs.Allowance.{accepted_by}
use Rattle.board.specs.Entries.{entries_of, birth, submissions, is_held, is_shared, is_closed, mask, caller_of}
use Rattle.board.specs.NextEntry.{EndsRight, IsOfOne, LeaveInOrder, LeavesShared, LeavesSubmissions, LeavesShut}
use Rattle.board.specs.HandedOut.{HandsNothing, CollectHandsOut, AllHandedOutIsDrained, completions}
use Rattle.board.specs.Legal.{IsOpenAs, MayManage, LegalBoard, is_shut}
use Rattle.board.specs.Order.{handed_out, completed, HandsOutAll, FrontIsAll, KeepsOrder}
use Rattle.board.specs.Shapes.{is_pad, has_queue}
use Rattle.board.specs.PipelineHistory.{Joins, LeavesOthers, BeginsAlone, StaysOpen, StaysManaged, Holds as IsHeldSo, StaysHeld, Masks as IsMaskedSo, StaysMasked}
use Rattle.reply_text.specs.declared.origin.Origin.{Origin}
use Rattle.transforms.specs.AskValue.{ask_size}
use Rattle.transforms.specs.Finish.{finished_length}
use Rattle.transforms.specs.declared.ask.Ask.{Ask}
use Rattle.transforms.specs.declared.request.Finished.{Finished}
use Rattle.turn_lock.specs.Turns.{Known, StartsWith, sees}
use Rattle.turn_lock.specs.PassLaws.{IsOwn}
use Rattle.board.specs.Others.{WorkLeavesKnown, WorkLeavesOwn}
use Rattle.dialogues.specs.AllocAndFree.{new_pipe}
use Rattle.dialogues.specs.BoardCalls.{BoardCall, Creates, Collects, Closes, Shuts, Notice, Started, Completed, board_calls, origin_of, outcome}
use Rattle.dialogues.specs.GoingOn.{BoardCallsGoOn, BoardUncalled}
use Rattle.dialogues.specs.ScriptState.{PipelineState}

-- what the board's laws say of an entry of one's own
pub record Steps : Type 0 where
  pub last : (h : List (BoardEntry Ask)) (e : BoardEntry Ask) → EndsRight h e
  pub one : (e : BoardEntry Ask) (p q : ℕ) → IsOfOne e p q
  pub joins : (h : List (BoardEntry Ask)) (e : BoardEntry Ask) (p : ℕ) → Joins h e p
  pub leaves : (h : List (BoardEntry Ask)) (e : BoardEntry Ask) (p : ℕ) → LeavesOthers h e p
  pub alone : (h : List (BoardEntry Ask)) (caller p : ℕ) (shape : Shape) → BeginsAlone h caller p shape
  pub opened : (such : Shape → Bool) (h : List (BoardEntry Ask)) (e : BoardEntry Ask) (p : ℕ) → StaysOpen such h e p
  pub managed : (h : List (BoardEntry Ask)) (e : BoardEntry Ask) (p caller : ℕ) → StaysManaged h e p caller
  pub switched : (h : List (BoardEntry Ask)) (caller p : ℕ) → IsHeldSo h caller p
  pub held : (h : List (BoardEntry Ask)) (e : BoardEntry Ask) (p : ℕ) → StaysHeld h e p
  pub remasked : (h : List (BoardEntry Ask)) (caller p bits : ℕ) → IsMaskedSo h caller p bits
  pub masked : (h : List (BoardEntry Ask)) (e : BoardEntry Ask) (p : ℕ) → StaysMasked h e p
  pub shared : (es : List (BoardEntry Ask)) (e : BoardEntry Ask) → LeavesShared es e
  pub accepted : (es : List (BoardEntry Ask)) (e : BoardEntry Ask) → LeavesSubmissions es e
  pub shut : (h : List (BoardEntry Ask)) (e : BoardEntry Ask) → LeavesShut h e
  pub nothing : (h : List (BoardEntry Ask)) (e : BoardEntry Ask) (p : ℕ) → HandsNothing h e p
  pub handed : (h : List (BoardEntry Ask)) (caller p to : ℕ) → CollectHandsOut outcome h caller p to
  pub all : (h : List (BoardEntry Ask)) (p caller to : ℕ) → HandsOutAll h p caller to
  pub finished : (es : List (BoardEntry Ask)) → FrontIsAll es
  pub drained : (h : List (BoardEntry Ask)) (p : ℕ) → AllHandedOutIsDrained h p
  pub order : (h : List (BoardEntry Ask)) (p : ℕ) → KeepsOrder h p
  pub leave : (h : List (BoardEntry Ask)) (p : ℕ) → LeaveInOrder h p

-- what entries of others, and one's own work, leave as it was, what an entry of one's own does, and that values are
-- short
pub record Laws : Type 0 where
  pub mine : (h es : List (BoardEntry Ask)) (p caller : ℕ) → WorkLeavesKnown h es p caller
  pub own : (h es : List (BoardEntry Ask)) (caller : ℕ) → WorkLeavesOwn h es caller
  pub calls : BoardCallsGoOn
  pub uncalled : BoardUncalled
  pub steps : Steps
  pub short : (ask : Ask) → finished_length (outcome ask) ≤ ask_size ask + 64

-- ---- one pipeline

abbrev pub IsPad : Option ℕ → Type 0
IsPad None = ⊤
IsPad (Some max) = ⊥

abbrev pub IsQueue : Option ℕ → Type 0
IsQueue None = ⊥
IsQueue (Some max) = ⊤

-- a pad, or a pipeline with a line in front: that one has a bound
abbrev pub made_so : Option ℕ → Shape → Bool
made_so None = is_pad
made_so (Some max) = has_queue

-- The pipeline of which this caller is the maker, as the entries of its number have it. A pad has no worker exactly
-- where its mask is empty, and only what has a line is held.
pub record IsPipeIn (caller : ℕ) (es : List (BoardEntry Ask)) (pipe : PipelineState) : Type 0 where
  pub opened : IsOpenAs (made_so pipe.bound) es
  pub managed : MayManage es caller
  pub unshared : is_shared es ≡ false
  pub masked : IsPad pipe.bound → (mask es == 0) ≡ pipe.mask_is_empty
  pub held : is_held es ≡ pipe.held
  pub queue : pipe.held ≡ true → IsQueue pipe.bound
  pub lines : map origin_of (submissions es) ≡ pipe.lines
  pub delivered : length (completed (handed_out es)) ≡ pipe.delivered

abbrev pub KnowsPipe : Known (BoardEntry Ask) → PipelineState → Type 0
KnowsPipe k pipe = IsPipeIn k.number (entries_of pipe.number k.seen) pipe

-- the caller made the pipeline of this number, and hasn't closed it
abbrev pub Owns : Known (BoardEntry Ask) → ℕ → Type 0
Owns k p = MayManage (entries_of p k.seen) k.number × (is_closed (entries_of p k.seen) ≡ false)

-- ---- how what is known goes on

-- the caller has seen more, and these are its further calls
pub record Called (k l : Known (BoardEntry Ask)) (calls : List BoardCall) : Type 0 where
  pub number : l.number ≡ k.number
  pub next : l.next ≡ k.next
  pub seen : StartsWith l.seen k.seen
  pub calls_are : board_calls l.number l.seen ≡ board_calls k.number k.seen ++ calls

-- Others went on, and the caller worked: each of its pipelines is as it was, and it has no other.
pub record Unchanged (k l : Known (BoardEntry Ask)) : Type 0 where
  pub called : Called k l []
  pub legal : LegalBoard l.seen
  pub pipes : (pipe : PipelineState) → KnowsPipe k pipe → KnowsPipe l pipe
  pub owned : (p : ℕ) → Owns l p → Owns k p
  pub accepted : accepted_by l.number l.seen ≡ accepted_by k.number k.seen
  pub unshut : k.number ≡ 0 → is_shut l.seen ≡ is_shut k.seen

-- The caller made these calls on one of its pipelines, which accepted these asks; each other pipeline is as it was.
pub record Changed (k l : Known (BoardEntry Ask)) (pipe pipe' : PipelineState) (calls : List BoardCall) (asks : List Ask) : Type 0 where
  pub called : Called k l calls
  pub legal : LegalBoard l.seen
  pub same : pipe'.number ≡ pipe.number
  pub now : KnowsPipe l pipe'
  pub others : (other : PipelineState) → (other.number == pipe.number) ≡ false → KnowsPipe k other → KnowsPipe l other
  pub owned : (p : ℕ) → (p == pipe.number) ≡ false → Owns l p → Owns k p
  pub accepted : accepted_by l.number l.seen ≡ accepted_by k.number k.seen ++ asks
  pub unshut : k.number ≡ 0 → is_shut l.seen ≡ is_shut k.seen

-- The caller closed one of its pipelines; each other is as it was.
pub record Closed (k l : Known (BoardEntry Ask)) (pipe : PipelineState) : Type 0 where
  pub called : Called k l (Closes pipe.number ∷ [])
  pub legal : LegalBoard l.seen
  pub others : (other : PipelineState) → (other.number == pipe.number) ≡ false → KnowsPipe k other → KnowsPipe l other
  pub owned : (p : ℕ) → Owns l p → Owns k p × ((p == pipe.number) ≡ false)
  pub accepted : accepted_by l.number l.seen ≡ accepted_by k.number k.seen
  pub unshut : k.number ≡ 0 → is_shut l.seen ≡ is_shut k.seen

-- The caller shut the board. This is the history up to then: others had gone on, and the caller had worked.
pub record IsShut (k l : Known (BoardEntry Ask)) : Type 0 where
  pub called : Called k l (Shuts ∷ [])
  pub before : List (BoardEntry Ask)
  pub kept : Unchanged k (sees k before)
  pub last : l.seen ≡ before ++ Shut k.number ∷ []
  pub legal : LegalBoard l.seen
  pub own : IsOwn caller_of l

-- The caller made a pipeline of the shape, whose number no other has; each other is as it was.
pub record Opened (k l : Known (BoardEntry Ask)) (number : ℕ) (shape : Shape) : Type 0 where
  pub changed : Changed k l (new_pipe number shape) (new_pipe number shape) (Creates number shape ∷ []) []
  pub fresh : (other : PipelineState) → KnowsPipe k other → (other.number == number) ≡ false
  pub born : birth (entries_of number l.seen) ≡ Some (l.number, shape)

-- ---- what calls make of a pipeline

-- the pipeline has accepted the ask
abbrev pub with_ask : PipelineState → Ask → PipelineState
with_ask pipe ask = record pipe { lines = pipe.lines ++ origin_of ask ∷ [] }

-- a queue gave this answer
abbrev pub entered_pipe : PipelineState → Ask → Entered → PipelineState
entered_pipe pipe ask (InProgress number) = with_ask pipe ask
entered_pipe pipe ask (Busy number) = with_ask pipe ask
entered_pipe pipe ask NoSpace = pipe

abbrev pub entered_asks : Ask → Entered → List Ask
entered_asks ask (InProgress number) = ask ∷ []
entered_asks ask (Busy number) = ask ∷ []
entered_asks ask NoSpace = []

-- from which line of which client's script the request of this number is
abbrev pub origin_at : List Origin → ℕ → Origin
origin_at lines number = unwrap_or (slice_get lines number) (record { client = 0; line = 0 })

-- what a callback tells, by the lines of the requests
abbrev pub notice_by : List Origin → Callback Finished → Notice
notice_by lines (callback.Started number) = Started (origin_at lines number)
notice_by lines (callback.Done number finished) = Completed (origin_at lines number) finished

-- the pipeline was drained: it handed these callbacks out
abbrev pub Drained : Known (BoardEntry Ask) → Known (BoardEntry Ask) → PipelineState → List (Callback Finished) → Type 0
Drained k l pipe callbacks =
    Changed k l pipe (record pipe { delivered = pipe.delivered + completions callbacks })
    (Collects pipe.number (record { notices = map (notice_by pipe.lines) callbacks; all_done = true }) ∷ []) []

-- the same of a poll, before which all was done or not
abbrev pub Polled : Known (BoardEntry Ask) → Known (BoardEntry Ask) → PipelineState → List (Callback Finished) → Bool → Type 0
Polled k l pipe callbacks all =
    Changed k l pipe (record pipe { delivered = pipe.delivered + completions callbacks })
    (Collects pipe.number (record { notices = map (notice_by pipe.lines) callbacks; all_done = all }) ∷ []) []

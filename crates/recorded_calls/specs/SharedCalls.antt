-- What a caller knows of pipelines that are shared, its own and another's.
use Rattle.std.specs.Prelude.{ℕ, ◌+◌, ◌<◌, ◌≤◌, ◌≡◌, Bool, true, false, ◌==◌, List, [], ◌∷◌, ◌++◌, length, map}
use Rattle.kc_base.specs.declared.callback_list.Callback.{Callback}
use Rattle.board.specs.declared.entry.BoardEntry.{BoardEntry}
use Rattle.board.specs.declared.entry.Shape.{Shape}
use Rattle.board.specs.Allowance.{accepted_by}
use Rattle.board.specs.Alone.{HasEntries, PeersGone, PeersAreGone, PeersStayGone, WorkersAreLeft, WorkAlone, WorkAccepts}
use Rattle.board.specs.Entries.{entries_of, submissions, mask, is_held, is_shared}
use Rattle.board.specs.NextEntry.{LeavesBirth}
use Rattle.board.specs.HandedOut.{completions}
use Rattle.board.specs.Legal.{IsNoWorker, IsOpenAs, MaySubmit, MayManage, LegalBoard, is_shut}
use Rattle.board.specs.Order.{handed_out, completed, numbers_below}
use Rattle.board.specs.SharedPipelines.{SharedStays}
use Rattle.transforms.specs.declared.ask.Ask.{Ask}
use Rattle.transforms.specs.declared.request.Finished.{Finished}
use Rattle.turn_lock.specs.Turns.{Known, StartsWith, sees}
use Rattle.dialogues.specs.BoardCalls.{BoardCall, Collects, Shares, origin_of}
use Rattle.dialogues.specs.ScriptState.{PipelineState}
use Rattle.recorded_calls.specs.Pipelines.{Laws, IsPad, IsQueue, made_so, notice_by, KnowsPipe, Owns, Called, Unchanged}

-- what the board's laws say of what is shared, beside what they say of one's own
pub record SharingLaws : Type 0 where
  pub laws : Laws
  pub stays : (such : Shape → Bool) (h es : List (BoardEntry Ask)) (p : ℕ) → SharedStays such h es p
  pub birth : (es : List (BoardEntry Ask)) (e : BoardEntry Ask) → LeavesBirth es e
  pub are_gone : (k : Known (BoardEntry Ask)) (h : List (BoardEntry Ask)) → PeersAreGone k h
  pub gone : (k : Known (BoardEntry Ask)) (h : List (BoardEntry Ask)) (e : BoardEntry Ask) → PeersStayGone k h e
  pub left : (k : Known (BoardEntry Ask)) (h : List (BoardEntry Ask)) → WorkersAreLeft k h
  pub alone : (k m : Known (BoardEntry Ask)) (h es : List (BoardEntry Ask)) → WorkAlone k m h es
  pub accepts : (h es : List (BoardEntry Ask)) (p : ℕ) → WorkAccepts h es p

-- ---- another's

-- The pipeline is shared, and this caller may submit to it. A pad has no worker exactly where its mask is empty.
pub record IsSharedIn (caller : ℕ) (es : List (BoardEntry Ask)) (pipe : PipelineState) : Type 0 where
  pub opened : IsOpenAs (made_so pipe.bound) es
  pub submits : MaySubmit es caller
  pub shared : is_shared es ≡ true
  pub masked : IsPad pipe.bound → (mask es == 0) ≡ pipe.mask_is_empty

abbrev pub KnowsShared : Known (BoardEntry Ask) → PipelineState → Type 0
KnowsShared k pipe = IsSharedIn k.number (entries_of pipe.number k.seen) pipe

-- The caller made these calls on a pipeline that is shared, which accepted these asks. Each of its own is as it was.
pub record Gave (k l : Known (BoardEntry Ask)) (calls : List BoardCall) (asks : List Ask) : Type 0 where
  pub called : Called k l calls
  pub legal : LegalBoard l.seen
  pub pipes : (pipe : PipelineState) → KnowsPipe k pipe → KnowsPipe l pipe
  pub owned : (p : ℕ) → Owns l p → Owns k p
  pub accepted : accepted_by l.number l.seen ≡ accepted_by k.number k.seen ++ asks
  pub unshut : k.number ≡ 0 → is_shut l.seen ≡ is_shut k.seen

-- ---- one's own

-- The caller made the pipeline, and shares it: what others submit it doesn't know.
pub record IsLentIn (caller : ℕ) (es : List (BoardEntry Ask)) (pipe : PipelineState) : Type 0 where
  pub opened : IsOpenAs (made_so pipe.bound) es
  pub managed : MayManage es caller
  pub shared : is_shared es ≡ true
  pub masked : IsPad pipe.bound → (mask es == 0) ≡ pipe.mask_is_empty
  pub held : is_held es ≡ pipe.held
  pub queue : pipe.held ≡ true → IsQueue pipe.bound
  pub delivered : length (completed (handed_out es)) ≡ pipe.delivered

abbrev pub KnowsLent : Known (BoardEntry Ask) → PipelineState → Type 0
KnowsLent k pipe = IsLentIn k.number (entries_of pipe.number k.seen) pipe

-- The others have ended, and so it knows which requests the pipeline accepted.
pub record IsGatheredIn (caller : ℕ) (es : List (BoardEntry Ask)) (pipe : PipelineState) : Type 0 where
  pub lent : IsLentIn caller es pipe
  pub lines : map origin_of (submissions es) ≡ pipe.lines

abbrev pub KnowsGathered : Known (BoardEntry Ask) → PipelineState → Type 0
KnowsGathered k pipe = IsGatheredIn k.number (entries_of pipe.number k.seen) pipe

-- The caller has shared one of its pipelines; each other of its own is as it was.
pub record Lends (k l : Known (BoardEntry Ask)) (pipe : PipelineState) : Type 0 where
  pub called : Called k l (Shares pipe.number ∷ [])
  pub legal : LegalBoard l.seen
  pub now : KnowsLent l pipe
  pub others : (other : PipelineState) → (other.number == pipe.number) ≡ false → KnowsPipe k other → KnowsPipe l other
  pub lent : (other : PipelineState) → KnowsLent k other → KnowsLent l other
  pub owned : (p : ℕ) → Owns l p → Owns k p
  pub accepted : accepted_by l.number l.seen ≡ accepted_by k.number k.seen
  pub unshut : k.number ≡ 0 → is_shut l.seen ≡ is_shut k.seen

-- ---- others are joined into the caller's pass

-- the same pass, into which others were joined
pub record Rejoined (k l : Known (BoardEntry Ask)) : Type 0 where
  pub number : l.number ≡ k.number
  pub made : l.made ≡ k.made
  pub seen : StartsWith l.seen k.seen

-- each number above the workers' that the first pass gave has ended in it
pub record HaveEnded (k : Known (BoardEntry Ask)) : Type 0 where
  pub first : k.number ≡ 0
  pub ended : (n : ℕ) → 17 ≤ n → n < k.next → (made : List (BoardEntry Ask)) × HasEntries n made k

-- What the caller knew as k it knows at a turn at which its pass is l: its calls are as before, and what it shares.
pub record Rejoins (k l : Known (BoardEntry Ask)) : Type 0 where
  pub number : l.number ≡ k.number
  pub kept : Unchanged k (sees k l.seen)
  pub lent : (pipe : PipelineState) → KnowsLent k pipe → KnowsLent l pipe

-- ---- beside workers alone

-- Workers went on, and the caller worked: each pipeline that it shares is as it was.
pub record Beside (k l : Known (BoardEntry Ask)) : Type 0 where
  pub kept : Unchanged k l
  pub ended : l.ended ≡ k.ended
  pub gone : PeersGone l
  pub lent : (pipe : PipelineState) → KnowsLent k pipe → KnowsLent l pipe
  pub gathered : (pipe : PipelineState) → KnowsGathered k pipe → KnowsGathered l pipe

-- The caller made these calls on a pipeline that it shares; each other is as it was.
pub record Gathers (k l : Known (BoardEntry Ask)) (pipe pipe' : PipelineState) (calls : List BoardCall) : Type 0 where
  pub called : Called k l calls
  pub legal : LegalBoard l.seen
  pub ended : l.ended ≡ k.ended
  pub gone : PeersGone l
  pub same : pipe'.number ≡ pipe.number
  pub now_lent : KnowsLent k pipe → KnowsLent l pipe'
  pub now : KnowsGathered k pipe → KnowsGathered l pipe'
  pub lent : (other : PipelineState) → (other.number == pipe.number) ≡ false → KnowsLent k other → KnowsLent l other
  pub gathered : (other : PipelineState) → (other.number == pipe.number) ≡ false → KnowsGathered k other → KnowsGathered l other
  pub owned : (p : ℕ) → Owns l p → Owns k p
  pub unshut : is_shut l.seen ≡ is_shut k.seen

-- the pipeline was drained: it handed these callbacks out
abbrev pub DrainedLent : Known (BoardEntry Ask) → Known (BoardEntry Ask) → PipelineState → List (Callback Finished) → Type 0
DrainedLent k l pipe callbacks =
    Gathers k l pipe (record pipe { delivered = pipe.delivered + completions callbacks })
    (Collects pipe.number (record { notices = map (notice_by pipe.lines) callbacks; all_done = true }) ∷ [])

-- ---- laws

-- whoever goes on, a pipeline that is shared stays so
abbrev pub SharedStaysKnown : Known (BoardEntry Ask) → Known (BoardEntry Ask) → PipelineState → Type 0
SharedStaysKnown k l pipe = l.number ≡ k.number → StartsWith l.seen k.seen → LegalBoard l.seen → KnowsShared k pipe → KnowsShared l pipe

-- whose pass was split off that of a pipeline's maker knows it as shared
abbrev pub LentIsShared : Known (BoardEntry Ask) → Known (BoardEntry Ask) → PipelineState → Type 0
LentIsShared k l pipe = l.seen ≡ k.seen → IsNoWorker l.number → KnowsLent k pipe → KnowsShared l pipe

-- A pipeline that has handed out as many completions as it accepted requests has handed out those of all, in order,
-- each once.
abbrev pub GatheredHandsAll : Known (BoardEntry Ask) → PipelineState → Type 0
GatheredHandsAll k pipe =
    LegalBoard k.seen → KnowsGathered k pipe → pipe.delivered ≡ length pipe.lines
    → completed (handed_out (entries_of pipe.number k.seen)) ≡ numbers_below (length (submissions (entries_of pipe.number k.seen)))

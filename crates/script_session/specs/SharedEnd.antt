-- The end of input of the first script, when those have ended that shared its transforms.
use Rattle.std.specs.Prelude.{ℕ, ◌≡◌, ◌≤◌, false, List, [], ◌++◌, length, Option, Some, None, ⊤, All}
use Rattle.std.specs.List.{flat_map}
use Rattle.board.specs.declared.entry.BoardEntry.{BoardEntry}
use Rattle.board.specs.Alone.{PeersGone}
use Rattle.board.specs.Entries.{entries_of, submissions, caller_of}
use Rattle.board.specs.Legal.{LegalBoard, is_shut}
use Rattle.board.specs.Order.{handed_out, completed, numbers_below}
use Rattle.reply_text.specs.Answers.{text_of}
use Rattle.reply_text.specs.declared.answers.Answer.{Answer}
use Rattle.transforms.specs.declared.ask.Ask.{Ask}
use Rattle.turn_lock.specs.PassLaws.{IsOwn}
use Rattle.turn_lock.specs.Turns.{Known}
use Rattle.dialogues.specs.BoardCalls.{BoardCall}
use Rattle.dialogues.specs.Dialogues.{Dialogue}
use Rattle.dialogues.specs.PipelineCommands.{let_all_go, drain_all, end}
use Rattle.dialogues.specs.Transcripts.{IsTranscript}
use Rattle.dialogues.specs.ScriptState.{ScriptState, Live, PipelineState}
use Rattle.recorded_calls.specs.Pipelines.{Called, Owns, Unchanged, IsShut}
use Rattle.recorded_calls.specs.SharedCalls.{KnowsGathered, HaveEnded, Rejoined}
use Rattle.script_session.specs.TransformChanges.{AreApart}
use Rattle.script_session.specs.EndOfInput.{LeadsBy, EndsShut}
use Rattle.script_session.specs.PerformedDialogue.{SeesOn}
use Rattle.script_session.specs.Loans.{HasLent, AreLent}
use Rattle.script_session.specs.States.{owners}

-- The first script has shared these transforms; each caller that was split off its pass has ended in it, and the pass
-- is this now.
pub record IsJoined (lives : List Live) (l : Known (BoardEntry Ask)) : Type 0 where
  pub ended : HaveEnded l
  pub before : Known (BoardEntry Ask)
  pub own : IsOwn caller_of before
  pub rejoined : Rejoined before l
  pub legal : LegalBoard before.seen
  pub lent : AreLent lives before
  pub apart : (p : ℕ) → owners p lives ≤ 1
  pub owned : (p : ℕ) → Owns before p → 1 ≤ owners p lives
  pub unshut : is_shut before.seen ≡ false

-- The dialogue of its end was held, for any state of the script with these live transforms, and the text of its answers
-- was added. The board was shut last, workers alone are left beside it, and each pipeline that it made and hasn't
-- closed has handed out all.
pub record EndsFirst (lives : List Live) (k l : Known (BoardEntry Ask)) (text text' : List ℕ) : Type 0 where
  pub calls : List BoardCall
  pub said : List Answer
  pub called : Called k l calls
  pub is : (script_state : ScriptState) → script_state.lives ≡ lives → IsTranscript (end script_state) (record { registry = []; board = calls; answers = said; after = Some script_state })
  pub says : text' ≡ text ++ flat_map text_of said
  pub own : IsOwn caller_of l
  pub ended : l.ended ≡ k.ended
  pub shut : EndsShut l
  pub gone : PeersGone l
  pub handed : (p : ℕ) → Owns l p → completed (handed_out (entries_of p l.seen)) ≡ numbers_below (length (submissions (entries_of p l.seen)))

-- Memory was wanting: the caller has seen more, and workers alone are left beside it. The board isn't shut.
pub record StopsFirst (k l : Known (BoardEntry Ask)) : Type 0 where
  pub sees : SeesOn k l
  pub own : IsOwn caller_of l
  pub ended : l.ended ≡ k.ended
  pub gone : PeersGone l
  pub unshut : is_shut l.seen ≡ false

-- ---- one transform, and all of them

-- Beside workers alone the caller made these calls, and no pipeline.
pub record GoesBeside (k l : Known (BoardEntry Ask)) (calls : List BoardCall) : Type 0 where
  pub called : Called k l calls
  pub legal : LegalBoard l.seen
  pub ended : l.ended ≡ k.ended
  pub gone : PeersGone l
  pub owned : (p : ℕ) → Owns l p → Owns k p
  pub unshut : is_shut l.seen ≡ is_shut k.seen

-- The caller has seen more, and those that had ended in its pass still have.
pub record SeesBeside (k l : Known (BoardEntry Ask)) : Type 0 where
  pub sees : SeesOn k l
  pub ended : l.ended ≡ k.ended

-- a pipeline that was let go
abbrev pub let_go : Option PipelineState → Option PipelineState
let_go None = None
let_go (Some pipe) = Some (record pipe { held = false })

abbrev pub HasFreed : Known (BoardEntry Ask) → Option PipelineState → Type 0
HasFreed k pipe = HasLent k (let_go pipe)

-- its pipeline, if it has one, has handed out as many completions as it accepted requests
abbrev pub HasDelivered : Known (BoardEntry Ask) → Option PipelineState → Type 0
HasDelivered k None = ⊤
HasDelivered k (Some pipe) = (now : PipelineState) × (now.number ≡ pipe.number) × KnowsGathered k now × (now.delivered ≡ length now.lines)

-- The part of the dialogue was held with this transform, whose pipeline the caller knew so before and so now. It knows
-- each other pipeline as it did.
pub record MovesLent (Before After : Known (BoardEntry Ask) → Option PipelineState → Type 0) (dialogue : Dialogue → Dialogue) (pipe : Option PipelineState) (k l : Known (BoardEntry Ask)) (answers answers' : List Answer) : Type 0 where
  pub calls : List BoardCall
  pub said : List Answer
  pub goes : GoesBeside k l calls
  pub leads : LeadsBy dialogue calls said
  pub now : After l pipe
  pub before : (other : Option PipelineState) → AreApart pipe other → Before k other → Before l other
  pub after : (other : Option PipelineState) → AreApart pipe other → After k other → After l other
  pub says : answers' ≡ answers ++ said

-- the part of the dialogue was held with all these transforms
pub record MovesAllLent (After : Known (BoardEntry Ask) → Option PipelineState → Type 0) (dialogue : Dialogue → Dialogue) (lives : List Live) (k l : Known (BoardEntry Ask)) (answers answers' : List Answer) : Type 0 where
  pub calls : List BoardCall
  pub said : List Answer
  pub goes : GoesBeside k l calls
  pub leads : LeadsBy dialogue calls said
  pub now : All (λ (live : Live). After l live.pipe) lives
  pub says : answers' ≡ answers ++ said

-- ---- all up to the shut

-- Beside workers alone the caller knows these transforms' pipelines so, and no two share one.
pub record AreToMove (Before : Known (BoardEntry Ask) → Option PipelineState → Type 0) (lives : List Live) (k : Known (BoardEntry Ask)) : Type 0 where
  pub legal : LegalBoard k.seen
  pub gone : PeersGone k
  pub pipes : All (λ (live : Live). Before k live.pipe) lives
  pub apart : (p : ℕ) → owners p lives ≤ 1

-- all was let go and drained, and the text of the answers was added
pub record EndsLent (lives : List Live) (k l : Known (BoardEntry Ask)) (text text' : List ℕ) : Type 0 where
  pub calls : List BoardCall
  pub said : List Answer
  pub goes : GoesBeside k l calls
  pub leads : LeadsBy (λ rest. let_all_go lives (drain_all lives rest)) calls said
  pub paid : All (λ (live : Live). HasDelivered l live.pipe) lives
  pub says : text' ≡ text ++ flat_map text_of said

-- ---- the shut

-- Workers alone are left beside the first caller, and it hasn't shut the board.
pub record MayShut (k : Known (BoardEntry Ask)) : Type 0 where
  pub gone : PeersGone k
  pub once : is_shut k.seen ≡ false

-- It shut the board beside them: each pipeline that it shares is as it was.
pub record ShutsBeside (k l : Known (BoardEntry Ask)) : Type 0 where
  pub shut : IsShut k l
  pub ended : l.ended ≡ k.ended
  pub gone : PeersGone l
  pub gathered : (pipe : PipelineState) → KnowsGathered k pipe → KnowsGathered l pipe

-- It took a turn, at which it has seen all that it did, and workers alone are left beside it.
pub record MeetsBeside (k l : Known (BoardEntry Ask)) : Type 0 where
  pub kept : Unchanged k l
  pub ended : l.ended ≡ k.ended
  pub own : IsOwn caller_of l
  pub gone : PeersGone l

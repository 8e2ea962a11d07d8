-- The end of input: held pipelines are let go, each is drained, and then the board is shut.
use Rattle.std.specs.Prelude.{ℕ, ◌≡◌, false, List, [], ◌∷◌, ◌++◌, length, map, Option, Some, None, ⊤, All}
use Rattle.std.specs.Option.{option_map}
use Rattle.board.specs.declared.entry.BoardEntry.{BoardEntry}
use Rattle.board.specs.declared.entry.BoardEntry.TheVariants.{Shut}
use Rattle.board.specs.Allowance.{accepted_by}
use Rattle.board.specs.Entries.{entries_of, submissions, front, is_closed, is_shared, caller_of}
use Rattle.board.specs.Legal.{MayManage, LegalBoard, is_shut}
use Rattle.board.specs.PipelineHistory.{IsDrained}
use Rattle.transforms.specs.declared.ask.Ask.{Ask}
use Rattle.reply_text.specs.declared.answers.Answer.{Answer}
use Rattle.turn_lock.specs.PassLaws.{IsOwn}
use Rattle.turn_lock.specs.Turns.{Known}
use Rattle.dialogues.specs.BoardCalls.{BoardCall}
use Rattle.dialogues.specs.Dialogues.{Dialogue}
use Rattle.dialogues.specs.First.{BeginsBy}
use Rattle.dialogues.specs.RegistryCalls.{RegCall}
use Rattle.dialogues.specs.PipelineCommands.{end, end_beside}
use Rattle.dialogues.specs.Transcripts.{Transcript, IsTranscript, joined, transcript_of, text_in}
use Rattle.dialogues.specs.ScriptState.{ScriptState, Live, PipelineState}
use Rattle.recorded_calls.specs.RegistryCalls.{Asked}
use Rattle.recorded_calls.specs.Passes.{known}
use Rattle.recorded_calls.specs.Pipelines.{Called, Owns}
use Rattle.script_session.specs.TransformChanges.{Changes}
use Rattle.script_session.specs.States.{State, SameLocks, PipelinesMatch}

-- ---- a part of a dialogue

-- these calls and answers, and nothing else
abbrev pub part : List BoardCall → List Answer → Transcript
part calls said = record { registry = []; board = calls; answers = said; after = None }

-- by these calls and answers the dialogue comes to what is left of it, whatever that is
abbrev pub LeadsBy : (Dialogue → Dialogue) → List BoardCall → List Answer → Type 0
LeadsBy dialogue calls said =
    (rest : Dialogue) (r : List RegCall) (b : List BoardCall) → transcript_of (dialogue rest) r (calls ++ b) ≡ joined (part calls said) (transcript_of rest r b)

-- The part was broken off: the calls that were made are its first, whatever is left of the dialogue behind it.
pub record StopsMoving (dialogue : Dialogue → Dialogue) (k l : Known (BoardEntry Ask)) : Type 0 where
  pub calls : List BoardCall
  pub called : Called k l calls
  pub unshut : k.number ≡ 0 → is_shut l.seen ≡ is_shut k.seen
  pub begins : (rest : Dialogue) → BeginsBy (dialogue rest) [] calls

-- ---- one transform

-- by which the end of input knows a transform: its label, and its pipeline's number
abbrev pub place_of : Live → List ℕ × Option ℕ
place_of live = (live.label, option_map (λ (pipe : PipelineState). pipe.number) live.pipe)

-- the part of the dialogue was held with this transform
pub record Moves (dialogue : Dialogue → Dialogue) (live live' : Live) (k l : Known (BoardEntry Ask)) (answers answers' : List Answer) : Type 0 where
  pub calls : List BoardCall
  pub said : List Answer
  pub changes : Changes live live' k l calls []
  pub place : place_of live' ≡ place_of live
  pub leads : LeadsBy dialogue calls said
  pub says : answers' ≡ answers ++ said

-- its pipeline, if it has one, has handed out as many completions as it accepted requests
abbrev pub AllDelivered : Option PipelineState → Type 0
AllDelivered None = ⊤
AllDelivered (Some pipe) = pipe.delivered ≡ length pipe.lines

-- ---- all of them

-- they are the live transforms of a script's state, of which the caller knows the board
abbrev pub PipelinesMatchState : List Live → Known (BoardEntry Ask) → Type 0
PipelinesMatchState lives k = (script_state : ScriptState) × (script_state.lives ≡ lives) × PipelinesMatch script_state k

-- the part of the dialogue was held with all these transforms
pub record MovesAll (dialogue : Dialogue → Dialogue) (lives lives' : List Live) (k l : Known (BoardEntry Ask)) (answers answers' : List Answer) : Type 0 where
  pub calls : List BoardCall
  pub said : List Answer
  pub called : Called k l calls
  pub places : map place_of lives' ≡ map place_of lives
  pub posted : PipelinesMatchState lives' l
  pub accepted : accepted_by l.number l.seen ≡ accepted_by k.number k.seen
  pub leads : LeadsBy dialogue calls said
  pub says : answers' ≡ answers ++ said

-- each has handed all out
abbrev pub AreAllDelivered : List Live → Type 0
AreAllDelivered lives = All (λ (live : Live). AllDelivered live.pipe) lives

-- ---- the end

-- A transcript of the end's dialogue was done, and its answers were added. The dialogue leaves the script's state as it
-- was; the session knows of its own pipelines that they are drained.
pub record EndsWith (s s' : State) (answers answers' : List Answer) : Type 0 where
  pub locks : SameLocks s s'
  pub turn : Transcript
  pub is : IsTranscript (end s.script_state) turn
  pub asked : Asked (known s.registry) (known s'.registry) turn.registry
  pub called : Called (known s.board) (known s'.board) turn.board
  pub ends : turn.after ≡ Some s.script_state
  pub says : answers' ≡ answers ++ turn.answers

-- the same, where the text of its answers was added
pub record AnswersEnd (s s' : State) (text text' : List ℕ) : Type 0 where
  pub locks : SameLocks s s'
  pub turn : Transcript
  pub is : IsTranscript (end s.script_state) turn
  pub asked : Asked (known s.registry) (known s'.registry) turn.registry
  pub called : Called (known s.board) (known s'.board) turn.board
  pub ends : turn.after ≡ Some s.script_state
  pub says : text' ≡ text ++ text_in turn

-- The caller shut the board last. Each pipeline that it made and hasn't closed was finished by then: so is each request
-- of it.
pub record EndsShut (k : Known (BoardEntry Ask)) : Type 0 where
  pub before : List (BoardEntry Ask)
  pub shut : k.seen ≡ before ++ Shut k.number ∷ []
  pub finished : (p : ℕ) → MayManage (entries_of p before) k.number → is_closed (entries_of p before) ≡ false → front (entries_of p before) ≡ length (submissions (entries_of p before))

-- ---- the end of a client beside others

-- A turn of its end was done, and the text of its answers was added.
pub record AnswersEndBeside (s s' : State) (text text' : List ℕ) : Type 0 where
  pub locks : SameLocks s s'
  pub turn : Transcript
  pub is : IsTranscript (end_beside s.script_state) turn
  pub asked : Asked (known s.registry) (known s'.registry) turn.registry
  pub called : Called (known s.board) (known s'.board) turn.board
  pub ends : turn.after ≡ Some s.script_state
  pub says : text' ≡ text ++ text_in turn

-- The caller has seen each entry that it made. Each pipeline that it made and hasn't closed is drained, and shared with
-- nobody.
pub record EndsDelivered (k : Known (BoardEntry Ask)) : Type 0 where
  pub legal : LegalBoard k.seen
  pub own : IsOwn caller_of k
  pub unshared : (p : ℕ) → Owns k p → is_shared (entries_of p k.seen) ≡ false
  pub drained : (p : ℕ) → Owns k p → IsDrained (entries_of p k.seen)

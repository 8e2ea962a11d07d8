-- What a line does with one transform and its pipeline.
use Rattle.std.specs.Prelude.{ℕ, ◌+◌, ◌≡◌, Bool, true, false, List, [], ◌∷◌, ◌++◌, length, Option, Some, None, nat_lt, sum_by}
use Rattle.board.specs.declared.entry.BoardEntry.{BoardEntry}
use Rattle.board.specs.Allowance.{accepted_by}
use Rattle.board.specs.Legal.{LegalBoard, is_shut}
use Rattle.transforms.specs.declared.ask.Ask.{Ask}
use Rattle.transforms.specs.AskValue.{ask_size}
use Rattle.reply_text.specs.declared.answers.Answer.{Answer}
use Rattle.turn_lock.specs.Turns.{Known}
use Rattle.dialogues.specs.BoardCalls.{BoardCall, Closes}
use Rattle.dialogues.specs.Dialogues.{Dialogue}
use Rattle.dialogues.specs.First.{BeginsBy}
use Rattle.dialogues.specs.Transcripts.{IsTranscript}
use Rattle.dialogues.specs.ScriptState.{ScriptState, Live, PipelineState, live_of, with_live}
use Rattle.recorded_calls.specs.Pipelines.{Called, Owns}
use Rattle.script_session.specs.States.{HasPipe, PipelinesMatch, is_at}

-- two pipelines, if there are two, have different numbers
abbrev pub AreApart : Option PipelineState → Option PipelineState → Type 0
AreApart pipe other = (number : ℕ) → is_at number pipe ≡ true → is_at number other ≡ false

-- The caller made these calls, and its pipelines accepted these asks. The transform has the same pipeline, as the board
-- has it now; and other pipelines stay as they were.
pub record Changes (live live' : Live) (k l : Known (BoardEntry Ask)) (calls : List BoardCall) (asks : List Ask) : Type 0 where
  pub label : live'.label ≡ live.label
  pub id : live'.id ≡ live.id
  pub same : (number : ℕ) → is_at number live'.pipe ≡ is_at number live.pipe
  pub called : Called k l calls
  pub legal : LegalBoard l.seen
  pub pipe : HasPipe l live'.pipe
  pub others : (other : Option PipelineState) → AreApart live.pipe other → HasPipe k other → HasPipe l other
  pub owned : (number : ℕ) → is_at number live.pipe ≡ false → Owns l number → Owns k number
  pub accepted : accepted_by l.number l.seen ≡ accepted_by k.number k.seen ++ asks
  pub unshut : k.number ≡ 0 → is_shut l.seen ≡ is_shut k.seen

-- the state with these asks counted
abbrev pub counting : ScriptState → List Ask → ScriptState
counting script_state asks = record script_state { requests = script_state.requests + length asks; bytes = script_state.bytes + sum_by ask_size asks }

-- The dialogue was held with one transform: this is its transcript for any state of the script in which the transform
-- stands.
pub record PerformsFor (dialogue : ScriptState → Dialogue) (live live' : Live) (k l : Known (BoardEntry Ask)) (asks : List Ask) (answers answers' : List Answer) : Type 0 where
  pub calls : List BoardCall
  pub said : List Answer
  pub changes : Changes live live' k l calls asks
  pub is : (script_state : ScriptState) → live_of script_state live.label ≡ Some live → PipelinesMatch script_state k
      → IsTranscript (dialogue script_state) (record { registry = []; board = calls; answers = said; after = Some (counting (with_live script_state live') asks) })
  pub says : answers' ≡ answers ++ said

-- It was broken off with one transform: the calls that were made are the first of it for any state of the script in
-- which the transform stands.
pub record StopsFor (dialogue : ScriptState → Dialogue) (live : Live) (k l : Known (BoardEntry Ask)) : Type 0 where
  pub calls : List BoardCall
  pub called : Called k l calls
  pub unshut : k.number ≡ 0 → is_shut l.seen ≡ is_shut k.seen
  pub begins : (script_state : ScriptState) → live_of script_state live.label ≡ Some live → PipelinesMatch script_state k → BeginsBy (dialogue script_state) [] calls

-- the ask, where it was accepted
abbrev pub asks_if : Bool → Ask → List Ask
asks_if true ask = ask ∷ []
asks_if false ask = []

-- ---- a transform is released

-- the call that closes its pipeline, if it has one
abbrev pub close_calls : Option PipelineState → List BoardCall
close_calls None = []
close_calls (Some pipe) = Closes pipe.number ∷ []

-- completions of its requests are to come
abbrev pub has_undelivered : Option PipelineState → Bool
has_undelivered None = false
has_undelivered (Some pipe) = nat_lt pipe.delivered (length pipe.lines)

-- The pipeline of the transform is closed, if it has one; each other is as it was.
pub record Released (live : Live) (k l : Known (BoardEntry Ask)) : Type 0 where
  pub called : Called k l (close_calls live.pipe)
  pub legal : LegalBoard l.seen
  pub others : (other : Option PipelineState) → AreApart live.pipe other → HasPipe k other → HasPipe l other
  pub owned : (number : ℕ) → Owns l number → Owns k number × (is_at number live.pipe ≡ false)
  pub accepted : accepted_by l.number l.seen ≡ accepted_by k.number k.seen
  pub unshut : k.number ≡ 0 → is_shut l.seen ≡ is_shut k.seen

-- How a client begins with its passes, and what it does with its part.
use Rattle.std.specs.Prelude.{ℕ, ◌-◌, ◌≤◌, ◌≡◌, Bool, List, Option, Some, IsSome, slice_get}
use Rattle.std.specs.List.{list_any}
use Rattle.alg_registry.specs.Rows.{caller_of as reg_caller}
use Rattle.board.specs.Entries.{caller_of as board_caller}
use Rattle.board.specs.Legal.{LegalBoard}
use Rattle.crew.specs.declared.passes.Passes.{Passes}
use Rattle.dialogues.specs.Lines.{script_beside}
use Rattle.dialogues.specs.Transcripts.{Transcript, IsTranscript, text_in}
use Rattle.script_run.specs.Text.{is_malformed}
use Rattle.script_session.specs.EndOfInput.{EndsDelivered}
use Rattle.script_session.specs.States.{State, SameLocks}
use Rattle.script_text.specs.declared.commands.Line.{Line}
use Rattle.recorded_calls.specs.RegistryCalls.{AskedBy}
use Rattle.recorded_calls.specs.Passes.{known}
use Rattle.recorded_calls.specs.Pipelines.{Called}
use Rattle.transforms.specs.declared.ask.Ask.{Ask}
use Rattle.turn_lock.specs.Passes.{knows}
use Rattle.turn_lock.specs.Turns.{Known, StartsWith, of}
use Rattle.dialogues.specs.Widths.{widest}

-- the part of the caller of this number: that of caller 17 is the first
abbrev pub IsPartAt : List (List ℕ) → ℕ → Option (List ℕ) → Type 0
IsPartAt parts n found = ((part : List ℕ) → 17 ≤ n → slice_get parts (n - 17) ≡ Some part → found ≡ Some part) × ((part : List ℕ) → found ≡ Some part → (17 ≤ n) × (slice_get parts (n - 17) ≡ Some part))

-- The pass has seen more by a turn at which it did nothing; no entry that it has seen is its own, where it has made
-- none.
pub record HasMet {E : Type 0} (by : E → ℕ) (k l : Known E) : Type 0 where
  pub number : l.number ≡ k.number
  pub made : l.made ≡ k.made
  pub seen : StartsWith l.seen k.seen
  pub own : of by l.number l.seen ≡ l.made

pub record HaveMet (p q : Passes Ask) : Type 0 where
  pub registry : HasMet reg_caller (knows p.registry) (knows q.registry)
  pub board : HasMet board_caller (knows p.board) (knows q.board)
  pub legal : LegalBoard (knows q.board).seen

-- A turn of the client's whole script was done, and its text was told.
pub record AnswersPart (lines : List Line) (s s' : State) (text : List ℕ) (bad : Bool) : Type 0 where
  pub locks : SameLocks s s'
  pub turn : Transcript
  pub is : IsTranscript (script_beside s.workers s.script_state lines) turn
  pub asked : AskedBy (widest lines) (known s.registry) (known s'.registry) turn.registry
  pub called : Called (known s.board) (known s'.board) turn.board
  pub ended : IsSome turn.after
  pub text_is : text ≡ text_in turn
  pub malformed : bad ≡ list_any is_malformed lines
  pub paid : EndsDelivered (known s'.board)

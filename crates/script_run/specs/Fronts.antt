-- What was written of a script whose run broke off.
use Rattle.std.specs.Prelude.{ℕ, ◌≡◌, List, [], ◌++◌}
use Rattle.alg_registry.specs.declared.entry.RegEntry.{RegEntry}
use Rattle.board.specs.declared.entry.BoardEntry.{BoardEntry}
use Rattle.dialogues.specs.BoardCalls.{BoardCall, board_calls}
use Rattle.dialogues.specs.Lines.{script}
use Rattle.dialogues.specs.RegistryCalls.{RegCall, reg_calls}
use Rattle.dialogues.specs.Transcripts.{Transcript, IsTranscript, text_in}
use Rattle.dialogues.specs.ScriptState.{ScriptState}
use Rattle.kc_base.specs.Streams.{IsPrefix}
use Rattle.script_text.specs.declared.commands.Line.{Line}
use Rattle.transforms.specs.declared.ask.Ask.{Ask}

-- The first calls of the caller are those of a turn of the script, which may break off, and this is a front of what it
-- prints.
pub record IsFrontText (workers : ℕ) (script_state : ScriptState) (caller : ℕ) (lines : List Line) (r : List RegEntry) (b : List (BoardEntry Ask)) (text : List ℕ) : Type 0 where
  pub turn : Transcript
  pub is : IsTranscript (script workers script_state lines) turn
  pub registry : (more : List RegCall) × (turn.registry ++ more ≡ reg_calls caller r)
  pub board : (more : List BoardCall) × (turn.board ++ more ≡ board_calls caller b)
  pub front : IsPrefix text (text_in turn)

-- nothing is a front of the text of any script
abbrev pub NothingIsFront : Type 0
NothingIsFront = (workers : ℕ) (script_state : ScriptState) (caller : ℕ) (lines : List Line) (r : List RegEntry) (b : List (BoardEntry Ask)) → IsFrontText workers script_state caller lines r b []

-- What was written of a script, line by line, however its run ended.
use Rattle.std.specs.Prelude.{◌≡◌, ◌⊎◌, ℕ, List, [], ◌∷◌, ◌++◌, IsSome}
use Rattle.alg_registry.specs.declared.entry.RegEntry.{RegEntry}
use Rattle.board.specs.declared.entry.BoardEntry.{BoardEntry}
use Rattle.dialogues.specs.BoardCalls.{BoardCall, board_calls}
use Rattle.dialogues.specs.Dialogues.{Ends}
use Rattle.dialogues.specs.Lines.{lines_dialogue, script}
use Rattle.dialogues.specs.RegistryCalls.{RegCall, reg_calls}
use Rattle.dialogues.specs.Texts.{turn_by}
use Rattle.dialogues.specs.Transcripts.{Transcript, IsTranscript, text_in}
use Rattle.dialogues.specs.ScriptState.{start}
use Rattle.kc_base.specs.Streams.{IsPrefix}
use Rattle.script_text.specs.declared.commands.Line.{Line}
use Rattle.transforms.specs.declared.ask.Ask.{Ask}

-- the turn that the script's calls in the histories make of these lines
abbrev pub told_by : ℕ → List Line → List RegEntry → List (BoardEntry Ask) → Transcript
told_by workers lines r b = turn_by (lines_dialogue workers (start 0) 1 lines Ends) 0 r b

-- These lines are answered, which prints this text. More calls may follow.
pub record LinesTell (workers : ℕ) (lines : List Line) (r : List RegEntry) (b : List (BoardEntry Ask)) (text : List ℕ) : Type 0 where
  pub registry : (more : List RegCall) × ((told_by workers lines r b).registry ++ more ≡ reg_calls 0 r)
  pub board : (more : List BoardCall) × ((told_by workers lines r b).board ++ more ≡ board_calls 0 b)
  pub ended : IsSome (told_by workers lines r b).after
  pub text_is : text ≡ text_in (told_by workers lines r b)

-- These are all lines, and the end of input is answered too.
pub record ScriptTells (workers : ℕ) (lines : List Line) (r : List RegEntry) (b : List (BoardEntry Ask)) (text : List ℕ) : Type 0 where
  pub turn : Transcript
  pub is : IsTranscript (script workers (start 0) lines) turn
  pub registry : (more : List RegCall) × (turn.registry ++ more ≡ reg_calls 0 r)
  pub board : (more : List BoardCall) × (turn.board ++ more ≡ board_calls 0 b)
  pub ended : IsSome turn.after
  pub text_is : text ≡ text_in turn

-- the first lines are answered, and the next one, or the end of input where none is left
abbrev pub NextTells : ℕ → List Line → List Line → List RegEntry → List (BoardEntry Ask) → List ℕ → Type 0
NextTells workers first [] r b text = ScriptTells workers first r b text
NextTells workers first (line ∷ left) r b text = LinesTell workers (first ++ line ∷ []) r b text

-- The text of first lines, which are answered; or with it a front of what the next one prints, or the end of input,
-- which then is answered too.
pub record IsTextByLines (workers : ℕ) (lines : List Line) (r : List RegEntry) (b : List (BoardEntry Ask)) (text : List ℕ) : Type 0 where
  pub first : List Line
  pub left : List Line
  pub lines_are : lines ≡ first ++ left
  pub before : List ℕ
  pub told : LinesTell workers first r b before
  pub last : (text ≡ before) ⊎ ((whole : List ℕ) × NextTells workers first left r b whole × IsPrefix before text × IsPrefix text whole)

-- nothing is the text of no line
abbrev pub NothingIsByLines : Type 0
NothingIsByLines = (workers : ℕ) (lines : List Line) (r : List RegEntry) (b : List (BoardEntry Ask)) → IsTextByLines workers lines r b []

-- The text of a script over the histories of its registry and its board.
use Rattle.std.specs.Prelude.{ℕ, ◌+◌, ◌≡◌, List, ◌++◌, Some, IsSome}
use Rattle.alg_registry.specs.declared.entry.RegEntry.{RegEntry}
use Rattle.board.specs.declared.entry.BoardEntry.{BoardEntry}
use Rattle.script_text.specs.declared.commands.Line.{Line}
use Rattle.transforms.specs.declared.ask.Ask.{Ask}
use Rattle.dialogues.specs.BoardCalls.{board_calls}
use Rattle.dialogues.specs.Dialogues.{Dialogue, Ends}
use Rattle.dialogues.specs.Lines.{script, script_beside, lines_dialogue}
use Rattle.dialogues.specs.RegistryCalls.{reg_calls}
use Rattle.dialogues.specs.SharedTransforms.{closing}
use Rattle.dialogues.specs.Transcripts.{Transcript, transcript_of, text_in, IsTranscript}
use Rattle.dialogues.specs.ScriptState.{ScriptState, Live, start, start_beside}

-- the turn that a caller's calls in the histories make of a dialogue
abbrev pub turn_by : Dialogue → ℕ → List RegEntry → List (BoardEntry Ask) → Transcript
turn_by dialogue caller r b = transcript_of dialogue (reg_calls caller r) (board_calls caller b)

-- This is what a dialogue prints over the histories, in which the caller's calls are the dialogue's and no more.
pub record IsTextOf (dialogue : Dialogue) (caller : ℕ) (r : List RegEntry) (b : List (BoardEntry Ask)) (text : List ℕ) : Type 0 where
  pub registry : (turn_by dialogue caller r b).registry ≡ reg_calls caller r
  pub board : (turn_by dialogue caller r b).board ≡ board_calls caller b
  pub ended : IsSome (turn_by dialogue caller r b).after
  pub text_is : text ≡ text_in (turn_by dialogue caller r b)

-- and of a script
abbrev pub turn_in : ℕ → ScriptState → ℕ → List Line → List RegEntry → List (BoardEntry Ask) → Transcript
turn_in workers script_state caller lines r b = turn_by (script workers script_state lines) caller r b

-- the text of a script over the histories
abbrev pub IsText : ℕ → ScriptState → ℕ → List Line → List RegEntry → List (BoardEntry Ask) → List ℕ → Type 0
IsText workers script_state caller lines r b text = IsTextOf (script workers script_state lines) caller r b text

-- ---- several scripts at once

-- the text of the script of a client, whose number is at least 1, beside others with whom it shares these transforms
abbrev pub IsClientText : ℕ → ℕ → List Live → List Line → List RegEntry → List (BoardEntry Ask) → List ℕ → Type 0
IsClientText workers client shared lines r b text = IsTextOf (script_beside workers (start_beside client shared) lines) (16 + client) r b text

-- The first script came to this state by its lines; its pipelines were shared then. Its lines print the one text, and
-- the end of its input the other.
pub record AreFirstTexts (workers : ℕ) (lines : List Line) (script_state : ScriptState) (r : List RegEntry) (b : List (BoardEntry Ask)) (opening ending : List ℕ) : Type 0 where
  pub first : Transcript
  pub last : Transcript
  pub is_first : IsTranscript (lines_dialogue workers (start 0) 1 lines Ends) first
  pub makes : first.after ≡ Some script_state
  pub is_last : IsTranscript (closing script_state) last
  pub ended : IsSome last.after
  pub registry : first.registry ++ last.registry ≡ reg_calls 0 r
  pub board : first.board ++ last.board ≡ board_calls 0 b
  pub opening_is : opening ≡ text_in first
  pub ending_is : ending ≡ text_in last

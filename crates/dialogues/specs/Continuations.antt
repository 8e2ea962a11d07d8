-- Laws: how first lines lead to what is left of a script.
use Rattle.std.specs.Prelude.{ℕ, ◌+◌, ◌≡◌, List, [], ◌∷◌, ◌++◌, Some}
use Rattle.alg_registry.specs.declared.entry.RegEntry.{RegEntry}
use Rattle.board.specs.declared.entry.BoardEntry.{BoardEntry}
use Rattle.script_text.specs.declared.commands.Line.{Line}
use Rattle.transforms.specs.declared.ask.Ask.{Ask}
use Rattle.dialogues.specs.BoardCalls.{BoardCall, board_calls}
use Rattle.dialogues.specs.Dialogues.{Dialogue}
use Rattle.dialogues.specs.Lines.{line_dialogue, lines_dialogue}
use Rattle.dialogues.specs.PipelineCommands.{end}
use Rattle.dialogues.specs.RegistryCalls.{RegCall, reg_calls}
use Rattle.dialogues.specs.Texts.{IsText}
use Rattle.dialogues.specs.Transcripts.{Transcript, ended, joined, transcript_of, text_in, IsTranscript}
use Rattle.dialogues.specs.ScriptState.{ScriptState}

-- By this transcript lines lead to a state, with the lines that are left and their number, whatever follows.
abbrev pub Leads : ℕ → ScriptState → ℕ → List Line → Transcript → ScriptState → ℕ → List Line → Type 0
Leads workers script_state n lines turn script_state' n' left =
    (rest : ScriptState → Dialogue) (r : List RegCall) (b : List BoardCall)
    → transcript_of (lines_dialogue workers script_state n lines rest) (turn.registry ++ r) (turn.board ++ b)
    ≡ joined turn (transcript_of (lines_dialogue workers script_state' n' left rest) r b)

-- before the first line
abbrev pub LeadsNowhere : Type 0
LeadsNowhere = (workers : ℕ) (script_state : ScriptState) (n : ℕ) (lines : List Line) → Leads workers script_state n lines (ended script_state) script_state n lines

-- one line more
abbrev pub LeadsOn : Type 0
LeadsOn =
    (workers : ℕ) (script_state now after : ScriptState) (n m : ℕ) (lines left : List Line) (line : Line) (t u : Transcript) → Leads workers script_state n lines t now m (line ∷ left)
    → IsTranscript (line_dialogue workers now m line) u → u.after ≡ Some after → Leads workers script_state n lines (joined t u) after (m + 1) left

-- with the end of input it is the text
abbrev pub LeadsToEnd : Type 0
LeadsToEnd =
    (workers : ℕ) (script_state now after : ScriptState) (caller m : ℕ) (lines : List Line) (t u : Transcript) (r : List RegEntry) (b : List (BoardEntry Ask))
    → Leads workers script_state 1 lines t now m [] → IsTranscript (end now) u → u.after ≡ Some after
    → reg_calls caller r ≡ t.registry ++ u.registry → board_calls caller b ≡ t.board ++ u.board
    → IsText workers script_state caller lines r b (text_in t ++ text_in u)

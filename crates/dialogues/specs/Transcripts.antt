-- A turn: what a dialogue asks of the registry and of the board, what it answers, and what the script has made after
-- it.
use Rattle.std.specs.Prelude.{ℕ, ◌≡◌, List, [], ◌∷◌, ◌++◌, Option, Some, None}
use Rattle.std.specs.List.{flat_map}
use Rattle.reply_text.specs.declared.answers.Answer.{Answer}
use Rattle.reply_text.specs.Answers.{text_of}
use Rattle.dialogues.specs.RegistryCalls.{RegCall}
use Rattle.dialogues.specs.BoardCalls.{BoardCall}
use Rattle.dialogues.specs.Questions.{reg_call, reg_answer, board_call, board_answer}
use Rattle.dialogues.specs.Dialogues.{Dialogue, Ends, Says, Asks, Posts}
use Rattle.dialogues.specs.ScriptState.{ScriptState}

-- Nothing is made after a turn that breaks off, as its calls weren't all answered.
pub record Transcript : Type 0 where
  pub registry : List RegCall
  pub board : List BoardCall
  pub answers : List Answer
  pub after : Option ScriptState

-- what a turn prints
abbrev pub text_in : Transcript → List ℕ
text_in turn = flat_map text_of turn.answers

abbrev pub ended : ScriptState → Transcript
ended script_state = record { registry = []; board = []; answers = []; after = Some script_state }

abbrev pub broken : Transcript
broken = record { registry = []; board = []; answers = []; after = None }

abbrev pub saying : List Answer → Transcript → Transcript
saying answers turn = record turn { answers = answers ++ turn.answers }

abbrev pub asking : RegCall → Transcript → Transcript
asking call turn = record turn { registry = call ∷ turn.registry }

abbrev pub posting : BoardCall → Transcript → Transcript
posting call turn = record turn { board = call ∷ turn.board }

-- one turn after another
abbrev pub joined : Transcript → Transcript → Transcript
joined first later =
    record { registry = first.registry ++ later.registry; board = first.board ++ later.board; answers = first.answers ++ later.answers; after = later.after }

-- The turn of a dialogue where these calls are recorded, in which its questions find their answers in order.
abbrev pub transcript_of : Dialogue → List RegCall → List BoardCall → Transcript
transcript_of (Ends after) r b = ended after
transcript_of (Says answers next) r b = saying answers (transcript_of next r b)
transcript_of (Asks question next) [] b = broken
transcript_of (Asks question next) (call ∷ r) b =
    elim (reg_answer question call) [ Some answer ↦ asking (reg_call question answer) (transcript_of (next answer) r b) | None ↦ broken ]
transcript_of (Posts question next) r [] = broken
transcript_of (Posts question next) r (call ∷ b) =
    elim (board_answer question call) [ Some answer ↦ posting (board_call question answer) (transcript_of (next answer) r b) | None ↦ broken ]

-- this is the turn of the dialogue whose calls are recorded
abbrev pub IsTranscript : Dialogue → Transcript → Type 0
IsTranscript dialogue turn = transcript_of dialogue turn.registry turn.board ≡ turn

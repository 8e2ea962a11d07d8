-- Laws of the plain pass, for every dialogue.
use Rattle.std.specs.Prelude.{◌≡◌, ◌≤◌, true, List, [], ◌∷◌, ◌++◌, All, IsSome}
use Rattle.alg_registry.specs.declared.entry.RegEntry.{RegEntry}
use Rattle.alg_registry.specs.Legal.{LegalReg}
use Rattle.alg_registry.specs.Made.{Made}
use Rattle.alg_registry.specs.Rows.{caller_of}
use Rattle.board.specs.declared.entry.BoardEntry.{BoardEntry}
use Rattle.board.specs.Entries.{caller_of as board_caller}
use Rattle.board.specs.Legal.{LegalBoard}
use Rattle.templates.specs.Table.{table}
use Rattle.transforms.specs.declared.ask.Ask.{Ask}
use Rattle.dialogues.specs.BoardCalls.{BoardCall, board_calls}
use Rattle.dialogues.specs.Dialogues.{Dialogue, Ends, Says, Asks, Posts, followed}
use Rattle.dialogues.specs.InTurn.{AreInTurnBy}
use Rattle.dialogues.specs.Questions.{reg_call, board_call}
use Rattle.dialogues.specs.RegistryCalls.{reg_calls}
use Rattle.dialogues.specs.Transcripts.{Transcript, IsTranscript}
use Rattle.dialogues.specs.ScriptState.{ScriptState}
use Rattle.sequential_model.specs.Pipelines.{Pipeline, reply_in, pipelines_after}
use Rattle.sequential_model.specs.Registry.{PlainRegistry, first_registry, answer_in, registry_after}
use Rattle.settled_scripts.specs.Settled.{Passed, pass, saying, if_timeless}

-- what is asked of the board as a dialogue passes
abbrev pub posted : Dialogue → PlainRegistry → List Pipeline → List BoardCall
posted (Ends after) registry pipelines = []
posted (Says answers next) registry pipelines = posted next registry pipelines
posted (Asks question next) registry pipelines =
    let answer = answer_in registry question in
    posted (next answer) (registry_after registry (reg_call question answer)) pipelines
posted (Posts question next) registry pipelines =
    let answer = reply_in pipelines question in
    board_call question answer ∷ posted (next answer) registry (pipelines_after pipelines (board_call question answer))

-- what passed, and then what passes of a dialogue that goes on from it
abbrev pub passed_then : Passed → (ScriptState → Dialogue) → Passed
passed_then first later = saying first.answers (if_timeless first.timeless (pass (later first.after) first.registry first.pipelines))

-- a dialogue passes, and then what follows on it
abbrev pub PassesFollow : Type 0
PassesFollow =
    (first : Dialogue) (later : ScriptState → Dialogue) (registry : PlainRegistry) (pipelines : List Pipeline)
    → pass (followed first later) registry pipelines ≡ passed_then (pass first registry pipelines) later

abbrev pub PostsFollow : Type 0
PostsFollow =
    (first : Dialogue) (later : ScriptState → Dialogue) (registry : PlainRegistry) (pipelines : List Pipeline)
    → posted (followed first later) registry pipelines
    ≡ posted first registry pipelines
    ++ (let p : Passed = pass first registry pipelines in posted (later p.after) p.registry p.pipelines)

-- the turn says, and asks of the board, what passes of the dialogue
pub record IsAsPassed (d : Dialogue) (registry : PlainRegistry) (pipelines : List Pipeline) (turn : Transcript) : Type 0 where
  pub answers : turn.answers ≡ (pass d registry pipelines).answers
  pub calls : turn.board ≡ posted d registry pipelines

-- Over legal and faithful histories whose callers are the script and at most 16 workers, in which the script called the
-- registry in turn, a whole turn of a dialogue whose answers don't depend on time is as it passes where it is alone.
abbrev pub TurnsArePlain : Type 0
TurnsArePlain =
    (d : Dialogue) (turn : Transcript) (r : List RegEntry) (b : List (BoardEntry Ask))
    → LegalReg r → Made table r → All (λ e. caller_of e ≤ 16) r
    → LegalBoard b → All (λ e. board_caller e ≤ 16) b
    → AreInTurnBy 1 0 (reg_calls 0 r) [] r
    → IsTranscript d turn → IsSome turn.after → turn.registry ≡ reg_calls 0 r → turn.board ≡ board_calls 0 b
    → (pass d first_registry []).timeless ≡ true → IsAsPassed d first_registry [] turn

-- A load as it is held by a session, line by line, and what its part leaves.
use Rattle.std.specs.Prelude.{◌≡◌, ℕ, List, [], ◌++◌, Result, IfOk, IfSome, slice_get}
use Rattle.std.specs.List.{flat_map}
use Rattle.sha2.specs.declared.Sha256.{Sha256}
use Rattle.sha2.specs.Hashers.{Holds256}
use Rattle.alg_registry.specs.declared.entry.RegEntry.{RegEntry}
use Rattle.alg_registry.specs.Rows.{caller_of as reg_caller}
use Rattle.board.specs.declared.entry.BoardEntry.{BoardEntry}
use Rattle.board.specs.Entries.{caller_of as board_caller}
use Rattle.crew.specs.declared.passes.Passes.{Passes}
use Rattle.dialogues.specs.BoardCalls.{BoardCall, board_calls}
use Rattle.dialogues.specs.Dialogues.{Dialogue, followed}
use Rattle.dialogues.specs.InTurn.{AreInTurnBy}
use Rattle.dialogues.specs.Lines.{line_dialogue}
use Rattle.dialogues.specs.RegistryCalls.{RegCall, reg_calls, AllSettled}
use Rattle.dialogues.specs.Transcripts.{Transcript, transcript_of, joined}
use Rattle.dialogues.specs.ScriptState.{ScriptState}
use Rattle.load_mode.specs.Lines.{opening}
use Rattle.load_mode.specs.Turns.{bytes_told, IsLoadTranscript}
use Rattle.script_session.specs.States.{State}
use Rattle.recorded_calls.specs.Passes.{known}
use Rattle.transforms.specs.declared.ask.Ask.{Ask}
use Rattle.turn_lock.specs.PassLaws.{IsOwn}
use Rattle.turn_lock.specs.Passes.{knows}
use Rattle.turn_lock.specs.Turns.{Known}
use Rattle.script_run.specs.Runs.{OthersFollow, HasShut, IsShutIn}

-- ---- a session that holds it

-- The session has held a part of this dialogue, and the rest is left: its calls are all that its passes have of it,
-- made one after the other, and the hasher holds what the completions told.
pub record IsHeld (whole left : Dialogue) (s : State) (hasher : Sha256) : Type 0 where
  pub turn : Transcript
  pub leads : (r : List RegCall) (b : List BoardCall) → transcript_of whole (turn.registry ++ r) (turn.board ++ b) ≡ joined turn (transcript_of left r b)
  pub asked : reg_calls 0 (known s.registry).seen ≡ turn.registry
  pub settled : AllSettled (reg_calls 0 (known s.registry).seen)
  pub called : board_calls 0 (known s.board).seen ≡ turn.board
  pub in_turn : AreInTurnBy 1 0 turn.registry [] (known s.registry).seen
  pub caller : (known s.registry).number ≡ 0
  pub board_caller : (known s.board).number ≡ 0
  pub hashed : Holds256 hasher (flat_map bytes_told turn.answers)

-- the session goes on with a dialogue by a further part of it, whatever was held before
abbrev pub PerformsOn : Dialogue → (ScriptState → Dialogue) → State → State → Sha256 → Sha256 → Type 0
PerformsOn left later s s' hasher hasher' = (whole : Dialogue) → IsHeld whole left s hasher → IsHeld whole (later s'.script_state) s' hasher'

-- it goes on by the line of this number among those that make both transforms
abbrev pub PerformsOpening : ℕ → ℕ → State → State → Sha256 → Sha256 → Type 0
PerformsOpening workers number s s' hasher hasher' = IfSome (slice_get opening number) λ line.
    (later : ScriptState → Dialogue) → PerformsOn (followed (line_dialogue workers s.script_state number line) later) later s s' hasher hasher'

-- over all histories in which others alone follow on what the passes have seen the load is done, with this digest
abbrev pub IsLoadTurnAfter : ℕ → ℕ → ℕ → Known RegEntry → Known (BoardEntry Ask) → List ℕ → Type 0
IsLoadTurnAfter workers seed count k l digest =
    (r : List RegEntry) (b : List (BoardEntry Ask)) → OthersFollow reg_caller k r → OthersFollow board_caller l b → IsLoadTranscript workers seed count r b digest

-- ---- its part beside workers

-- what a load that reached its end leaves
pub record LoadEnds (workers seed count : ℕ) (p : Passes Ask) (digest : List ℕ) : Type 0 where
  pub turn : IsLoadTurnAfter workers seed count (knows p.registry) (knows p.board) digest
  pub own : IsOwn reg_caller (knows p.registry)
  pub shut : IsShutIn (knows p.board).seen

-- What a load has done whose passes were p and are now q, and its digest, if it reached its end.
pub record Loads {F : Type 0} (workers seed count : ℕ) (p q : Passes Ask) (result : Result (List ℕ) F) : Type 0 where
  pub part : HasShut p q
  pub ended : IfOk result (LoadEnds workers seed count q)

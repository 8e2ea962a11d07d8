-- What the scripts in the parts of an input do, each with passes of its own.
use Rattle.std.specs.Prelude.{ℕ, ◌-◌, ◌^◌, ◌≤◌, ◌≡◌, Bool, false, List, [], ◌++◌, length, Some, Result, IfOk, slice_get, All}
use Rattle.std.specs.List.{list_any}
use Rattle.alg_registry.specs.declared.entry.RegEntry.{RegEntry}
use Rattle.alg_registry.specs.Rows.{caller_of as reg_caller}
use Rattle.board.specs.declared.entry.BoardEntry.{BoardEntry}
use Rattle.board.specs.Entries.{caller_of as board_caller}
use Rattle.board.specs.Legal.{LegalBoard, is_shut}
use Rattle.crew.specs.declared.passes.Passes.{Passes}
use Rattle.crew.specs.Peers.{KeepNumbers, OthersFollow}
use Rattle.dialogues.specs.BoardCalls.{BoardCall, board_calls}
use Rattle.dialogues.specs.Dialogues.{Ends}
use Rattle.dialogues.specs.Lines.{lines_dialogue}
use Rattle.dialogues.specs.RegistryCalls.{reg_calls, AllSettled}
use Rattle.dialogues.specs.SharedTransforms.{share_all}
use Rattle.dialogues.specs.Texts.{IsClientText}
use Rattle.dialogues.specs.Transcripts.{Transcript, IsTranscript, text_in}
use Rattle.dialogues.specs.ScriptState.{ScriptState, Live, start}
use Rattle.script_run.specs.Text.{is_malformed}
use Rattle.script_session.specs.EndOfInput.{LeadsBy, EndsDelivered}
use Rattle.script_session.specs.Loans.{AreLent}
use Rattle.script_session.specs.States.{AreShared, owners}
use Rattle.script_text.specs.declared.commands.Line.{Line}
use Rattle.script_text.specs.Script.{script_of}
use Rattle.recorded_calls.specs.Pipelines.{Owns}
use Rattle.transforms.specs.declared.ask.Ask.{Ask}
use Rattle.turn_lock.specs.PassLaws.{IsOwn}
use Rattle.turn_lock.specs.Passes.{knows}
use Rattle.client_run.specs.declared.client.ClientText.{ClientText}

-- ---- the first part

-- The first part's lines were answered, and the transforms that it has made are shared. These are its passes then.
pub record FirstOpens (workers : ℕ) (lines : List Line) (shared : List Live) (q : Passes Ask) (text : List ℕ) (bad : Bool) : Type 0 where
  pub script_state : ScriptState
  pub turn : Transcript
  pub is : IsTranscript (lines_dialogue workers (start 0) 1 lines Ends) turn
  pub makes : turn.after ≡ Some script_state
  pub lives : script_state.lives ≡ shared
  pub text_is : text ≡ text_in turn
  pub malformed : bad ≡ list_any is_malformed lines
  pub registry : turn.registry ≡ reg_calls 0 (knows q.registry).seen
  pub settled : AllSettled (reg_calls 0 (knows q.registry).seen)
  pub own_registry : IsOwn reg_caller (knows q.registry)
  pub shares : List BoardCall
  pub leads : LeadsBy (share_all shared) shares []
  pub board : turn.board ++ shares ≡ board_calls 0 (knows q.board).seen
  pub own_board : IsOwn board_caller (knows q.board)
  pub legal : LegalBoard (knows q.board).seen
  pub lent : AreLent shared (knows q.board)
  pub apart : (p : ℕ) → owners p shared ≤ 1
  pub owned : (p : ℕ) → Owns (knows q.board) p → 1 ≤ owners p shared
  pub unshut : is_shut (knows q.board).seen ≡ false

-- ---- a client's part

-- A client may run as caller n with these passes: it has made nothing, and what all share it knows as shared.
pub record MayRun (workers : ℕ) (shared : List Live) (parts : List (List ℕ)) (n : ℕ) (p : Passes Ask) : Type 0 where
  pub few : workers ≤ 16
  pub short : All (λ part. length part ≤ 2 ^ 28) parts
  pub registry : ((knows p.registry).number ≡ n) × ((knows p.registry).made ≡ [])
  pub board : ((knows p.board).number ≡ n) × ((knows p.board).made ≡ [])
  pub shared_known : AreShared shared (knows p.board)

-- What a client's script has answered whose passes are q now: over all histories in which others alone follow, this is
-- its text.
pub record ClientAnswers (workers client : ℕ) (shared : List Live) (lines : List Line) (q : Passes Ask) (text : List ℕ) (bad : Bool) : Type 0 where
  pub text_after : (r : List RegEntry) (b : List (BoardEntry Ask)) → OthersFollow reg_caller (knows q.registry) r → OthersFollow board_caller (knows q.board) b
      → IsClientText workers client shared lines r b text
  pub malformed : bad ≡ list_any is_malformed lines
  pub own_registry : IsOwn reg_caller (knows q.registry)
  pub own_board : IsOwn board_caller (knows q.board)
  pub paid : EndsDelivered (knows q.board)

-- What the script of client n - 16 did whose passes were p and are now q, and what it gave. A number has a part where
-- it is that of one: the first part here is client 1's.
pub record ClientRan {F : Type 0} (workers : ℕ) (shared : List Live) (parts : List (List ℕ)) (n : ℕ) (p q : Passes Ask) (x : Result ClientText F) : Type 0 where
  pub numbers : KeepNumbers p q
  pub answers : (part : List ℕ) → 17 ≤ n → slice_get parts (n - 17) ≡ Some part
      → IfOk x (λ text. ClientAnswers workers (n - 16) shared (script_of part) q text.reply.text text.malformed)

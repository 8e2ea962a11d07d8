-- Laws that a run goes by: of lines and calls as histories go on, and of what a crew leaves.
use Rattle.std.specs.Prelude.{◌≡◌, ◌++◌, ℕ, Bool, List, Some}
use Rattle.alg_registry.specs.declared.entry.RegEntry.{RegEntry}
use Rattle.alg_registry.specs.Rows.{caller_of as reg_caller}
use Rattle.board.specs.declared.entry.BoardEntry.{BoardEntry}
use Rattle.board.specs.Entries.{caller_of as board_caller}
use Rattle.crew.specs.Crews.{CrewsEnd, CrewWorks}
use Rattle.board.specs.Ends.{AllIsFinished, ShutIsLast}
use Rattle.dialogues.specs.BoardCalls.{BoardCall}
use Rattle.dialogues.specs.Dialogues.{Dialogue, followed}
use Rattle.dialogues.specs.FirstCalls.{BeginsByNone, BeginsInFirst, BeginsInLines, FurtherStay}
use Rattle.dialogues.specs.GoingOn.{RegistryCallsGoOn, RegistryUnasked, BoardCallsGoOn, BoardUncalled, NoCall, InTurnByAny, InTurnByMore, CallsThenCallsBy}
use Rattle.dialogues.specs.Continuations.{LeadsNowhere, LeadsOn, LeadsToEnd}
use Rattle.dialogues.specs.RegistryCalls.{RegCall}
use Rattle.dialogues.specs.Transcripts.{Transcript, IsTranscript, joined, transcript_of}
use Rattle.dialogues.specs.ScriptState.{ScriptState}
use Rattle.transforms.specs.declared.ask.Ask.{Ask}
use Rattle.turn_lock.specs.Turns.{Known}

pub record Laws : Type 0 where
  pub nowhere : LeadsNowhere
  pub on : LeadsOn
  pub end_ : LeadsToEnd
  pub registry_calls : RegistryCallsGoOn
  pub unasked : RegistryUnasked
  pub board_calls : BoardCallsGoOn
  pub uncalled : BoardUncalled
  pub no_call : NoCall
  pub any_width : InTurnByAny
  pub wider : InTurnByMore
  pub later_calls : CallsThenCallsBy
  pub follow : (first : Dialogue) (later : ScriptState → Dialogue) (turn : Transcript) (script_state : ScriptState) (r : List RegCall) (b : List BoardCall)
      → IsTranscript first turn → turn.after ≡ Some script_state
      → transcript_of (followed first later) (turn.registry ++ r) (turn.board ++ b) ≡ joined turn (transcript_of (later script_state) r b)
  pub begins_none : BeginsByNone
  pub begins_first : BeginsInFirst
  pub begins_lines : BeginsInLines
  pub further_stay : FurtherStay

pub record CrewLaws : Type 0 where
  pub registry_ends : (is_work : RegEntry → Bool) (from count : ℕ) (k l : Known RegEntry) (r : List RegEntry) → CrewsEnd reg_caller is_work from count k l r
  pub board_ends : (is_work : BoardEntry Ask → Bool) (from count : ℕ) (k l : Known (BoardEntry Ask)) (b : List (BoardEntry Ask)) → CrewsEnd board_caller is_work from count k l b
  pub registry_works : (is_work : RegEntry → Bool) (workers : ℕ) (k l : Known RegEntry) (r : List RegEntry) → CrewWorks reg_caller is_work workers k l r
  pub board_works : (is_work : BoardEntry Ask → Bool) (workers : ℕ) (k l : Known (BoardEntry Ask)) (b : List (BoardEntry Ask)) → CrewWorks board_caller is_work workers k l b
  pub all_finished : (b : List (BoardEntry Ask)) (caller : ℕ) → AllIsFinished b caller
  pub shut_last : (b : List (BoardEntry Ask)) (caller : ℕ) (later : List (BoardEntry Ask)) → ShutIsLast b caller later

-- Laws by which the lines of a part are answered: of dialogues, and of calls as histories go on.
use Rattle.std.specs.Prelude.{◌≡◌, ◌++◌, List, Some}
use Rattle.dialogues.specs.BoardCalls.{BoardCall}
use Rattle.dialogues.specs.Dialogues.{Dialogue, followed}
use Rattle.dialogues.specs.GoingOn.{RegistryCallsGoOn, RegistryUnasked, BoardCallsGoOn, BoardUncalled, NoCall, InTurnByAny, InTurnByMore, CallsThenCallsBy, CallsByAre}
use Rattle.dialogues.specs.Continuations.{LeadsNowhere, LeadsOn}
use Rattle.dialogues.specs.RegistryCalls.{RegCall}
use Rattle.dialogues.specs.Transcripts.{Transcript, IsTranscript, joined, transcript_of}
use Rattle.dialogues.specs.ScriptState.{ScriptState}

pub record Laws : Type 0 where
  pub nowhere : LeadsNowhere
  pub on : LeadsOn
  pub follow : (first : Dialogue) (later : ScriptState → Dialogue) (turn : Transcript) (script_state : ScriptState) (r : List RegCall) (b : List BoardCall)
      → IsTranscript first turn → turn.after ≡ Some script_state
      → transcript_of (followed first later) (turn.registry ++ r) (turn.board ++ b) ≡ joined turn (transcript_of (later script_state) r b)
  pub registry_calls : RegistryCallsGoOn
  pub unasked : RegistryUnasked
  pub board_calls : BoardCallsGoOn
  pub uncalled : BoardUncalled
  pub no_call : NoCall
  pub any_width : InTurnByAny
  pub wider : InTurnByMore
  pub later_calls : CallsThenCallsBy
  pub are : CallsByAre

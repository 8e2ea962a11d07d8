-- What a line makes of a session.
use Rattle.std.specs.Prelude.{ℕ, ◌≡◌, ◌≤◌, List, ◌++◌, Some}
use Rattle.transforms.specs.declared.ask.Ask.{Ask}
use Rattle.transforms.specs.declared.request.Finished.{Finished}
use Rattle.shared_registry.specs.declared.registry_lock.SharedRegistry.{SharedRegistry}
use Rattle.shared_board.specs.declared.shared.SharedBoard.{SharedBoard}
use Rattle.dialogues.specs.Dialogues.{Dialogue}
use Rattle.dialogues.specs.Transcripts.{Transcript, IsTranscript, text_in}
use Rattle.recorded_calls.specs.RegistryCalls.{AskedBy}
use Rattle.recorded_calls.specs.Passes.{known, CallsRegistry, CallsBoard}
use Rattle.recorded_calls.specs.Pipelines.{Called}
use Rattle.script_session.specs.States.{State, SameLocks, ReferencesMatch, PipelinesMatch, PadsHaveAListPerWorker, AreShared}

-- The session's passes are those of the two locks, what it knows of them is its script's state, at most 16 workers
-- stand beside it, for each of which its pads have a list, and what it shares is shared.
pub record IsReady {W : Type 0} (registry : SharedRegistry) (board : SharedBoard W Ask Finished) (s : State) : Type 0 where
  pub calls_registry : CallsRegistry registry s.registry
  pub calls_board : CallsBoard board s.board
  pub stands : ReferencesMatch s.script_state.lives (known s.registry)
  pub posted : PipelinesMatch s.script_state (known s.board)
  pub few : s.workers ≤ 16
  pub wide : PadsHaveAListPerWorker s
  pub shared : AreShared s.script_state.shared (known s.board)

-- A turn of the dialogue was done, with at most so many looks at once, and its text was added.
pub record Replies (width : ℕ) (dialogue : Dialogue) (s s' : State) (text text' : List ℕ) : Type 0 where
  pub locks : SameLocks s s'
  pub turn : Transcript
  pub is : IsTranscript dialogue turn
  pub asked : AskedBy width (known s.registry) (known s'.registry) turn.registry
  pub called : Called (known s.board) (known s'.board) turn.board
  pub ends : turn.after ≡ Some s'.script_state
  pub says : text' ≡ text ++ text_in turn

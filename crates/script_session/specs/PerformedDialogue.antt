-- A dialogue that a session held.
use Rattle.std.specs.Prelude.{ℕ, ◌≡◌, List, ◌++◌, Some}
use Rattle.alg_registry.specs.declared.entry.RegEntry.{RegEntry}
use Rattle.board.specs.declared.entry.BoardEntry.{BoardEntry}
use Rattle.board.specs.Legal.{is_shut}
use Rattle.reply_text.specs.declared.answers.Answer.{Answer}
use Rattle.transforms.specs.declared.ask.Ask.{Ask}
use Rattle.turn_lock.specs.PassLaws.{IsOwn}
use Rattle.turn_lock.specs.Turns.{Known, StartsWith}
use Rattle.alg_registry.specs.Rows.{caller_of as reg_caller}
use Rattle.dialogues.specs.BoardCalls.{BoardCall}
use Rattle.dialogues.specs.Dialogues.{Dialogue}
use Rattle.dialogues.specs.First.{AreFurther, BeginsBy}
use Rattle.dialogues.specs.RegistryCalls.{RegCall}
use Rattle.dialogues.specs.Transcripts.{Transcript, IsTranscript}
use Rattle.dialogues.specs.ScriptState.{ScriptState}
use Rattle.script_session.specs.States.{State, SameLocks, ReferencesMatch, PipelinesMatch, PadsHaveAListPerWorker}
use Rattle.recorded_calls.specs.Passes.{known}
use Rattle.recorded_calls.specs.RegistryCalls.{AskedBy}
use Rattle.recorded_calls.specs.Pipelines.{Called}

-- Between what was known before and after, the dialogue's turn was done, with at most so many looks at once, and these
-- answers were added; what is known of registry and board is the script's state again.
pub record DoneBy (width : ℕ) (dialogue : Dialogue) (k : Known RegEntry) (b : Known (BoardEntry Ask)) (k' : Known RegEntry) (b' : Known (BoardEntry Ask)) (after : ScriptState) (answers answers' : List Answer) : Type 0 where
  pub turn : Transcript
  pub is : IsTranscript dialogue turn
  pub asked : AskedBy width k k' turn.registry
  pub called : Called b b' turn.board
  pub ends : turn.after ≡ Some after
  pub says : answers' ≡ answers ++ turn.answers
  pub stands : ReferencesMatch after.lives k'
  pub posted : PipelinesMatch after b'

abbrev pub Done : Dialogue → Known RegEntry → Known (BoardEntry Ask) → Known RegEntry → Known (BoardEntry Ask) → ScriptState → List Answer → List Answer → Type 0
Done dialogue k b k' b' after answers answers' = DoneBy 1 dialogue k b k' b' after answers answers'

-- the same of a session's states, whose pads have as many lists as before
pub record PerformsBy (width : ℕ) (dialogue : Dialogue) (s s' : State) (answers answers' : List Answer) : Type 0 where
  pub locks : SameLocks s s'
  pub done : DoneBy width dialogue (known s.registry) (known s.board) (known s'.registry) (known s'.board) s'.script_state answers answers'
  pub wide : PadsHaveAListPerWorker s → PadsHaveAListPerWorker s'

abbrev pub Performs : Dialogue → State → State → List Answer → List Answer → Type 0
Performs dialogue s s' answers answers' = PerformsBy 1 dialogue s s' answers answers'

-- a caller has seen more
pub record HasSeenMore {E : Type 0} (k l : Known E) : Type 0 where
  pub number : l.number ≡ k.number
  pub next : l.next ≡ k.next
  pub seen : StartsWith l.seen k.seen

-- a caller of the board has seen more, and hasn't shut it
pub record SeesOn (k l : Known (BoardEntry Ask)) : Type 0 where
  pub more : HasSeenMore k l
  pub unshut : k.number ≡ 0 → is_shut l.seen ≡ is_shut k.seen

-- The session goes no further: its passes have seen more.
pub record Stops (s s' : State) : Type 0 where
  pub locks : SameLocks s s'
  pub registry : HasSeenMore (known s.registry) (known s'.registry)
  pub board : SeesOn (known s.board) (known s'.board)

-- It goes no further in the middle of a dialogue: what it called since are the dialogue's first calls.
pub record StopsIn (dialogue : Dialogue) (s s' : State) : Type 0 where
  pub stops : Stops s s'
  pub registry : List RegCall
  pub board : List BoardCall
  pub further : AreFurther (known s.registry).number registry (known s.registry).seen (known s'.registry).seen
  pub own : IsOwn reg_caller (known s'.registry)
  pub called : Called (known s.board) (known s'.board) board
  pub begins : BeginsBy dialogue registry board

-- What a session called where it broke off.
use Rattle.std.specs.Prelude.{◌≡◌, List, [], Option}
use Rattle.alg_registry.specs.declared.entry.RegEntry.{RegEntry}
use Rattle.board.specs.declared.entry.BoardEntry.{BoardEntry}
use Rattle.board.specs.declared.entry.Shape.{Shape}
use Rattle.board.specs.Legal.{is_shut}
use Rattle.transforms.specs.declared.ask.Ask.{Ask}
use Rattle.turn_lock.specs.PassLaws.{IsOwn}
use Rattle.turn_lock.specs.Turns.{Known}
use Rattle.alg_registry.specs.Rows.{caller_of as reg_caller}
use Rattle.dialogues.specs.AllocAndFree.{creates}
use Rattle.dialogues.specs.BoardCalls.{BoardCall}
use Rattle.dialogues.specs.Dialogues.{Dialogue}
use Rattle.dialogues.specs.First.{AreFurther, BeginsBy}
use Rattle.dialogues.specs.RegistryCalls.{RegCall}
use Rattle.dialogues.specs.ScriptState.{PipelineState}
use Rattle.recorded_calls.specs.Passes.{known}
use Rattle.recorded_calls.specs.Pipelines.{Called}
use Rattle.script_session.specs.PerformedDialogue.{Stops}
use Rattle.script_session.specs.States.{State}

-- The caller made these calls, and hasn't shut the board.
pub record CallsOn (k l : Known (BoardEntry Ask)) (calls : List BoardCall) : Type 0 where
  pub called : Called k l calls
  pub unshut : k.number ≡ 0 → is_shut l.seen ≡ is_shut k.seen

-- Between what was known before and after, the dialogue's first calls were made.
pub record Breaks (dialogue : Dialogue) (k : Known RegEntry) (b : Known (BoardEntry Ask)) (k' : Known RegEntry) (b' : Known (BoardEntry Ask)) : Type 0 where
  pub registry : List RegCall
  pub board : List BoardCall
  pub further : AreFurther k.number registry k.seen k'.seen
  pub own : IsOwn reg_caller k'
  pub called : Called b b' board
  pub begins : BeginsBy dialogue registry board

-- The session goes no further where a pipeline of the shape was to be made, if there is one: it called that, or
-- nothing.
pub record StopsMaking (shape : Option Shape) (s s' : State) : Type 0 where
  pub stops : Stops s s'
  pub unasked : s'.registry ≡ s.registry
  pub board : List BoardCall
  pub called : Called (known s.board) (known s'.board) board
  pub begins : (rest : Option PipelineState → Dialogue) → BeginsBy (creates shape rest) [] board

-- What the first script leaves that shares its transforms, and how it ends when the others have.
use Rattle.std.specs.Prelude.{ℕ, ◌≡◌, List, [], Option, Some, None, ⊤, All}
use Rattle.board.specs.declared.entry.BoardEntry.{BoardEntry}
use Rattle.board.specs.Legal.{LegalBoard, is_shut}
use Rattle.transforms.specs.declared.ask.Ask.{Ask}
use Rattle.turn_lock.specs.Turns.{Known}
use Rattle.dialogues.specs.BoardCalls.{BoardCall}
use Rattle.dialogues.specs.SharedTransforms.{shares, share_all}
use Rattle.dialogues.specs.ScriptState.{Live, PipelineState}
use Rattle.recorded_calls.specs.Pipelines.{Called, Owns}
use Rattle.recorded_calls.specs.SharedCalls.{KnowsLent}
use Rattle.script_session.specs.TransformChanges.{AreApart}
use Rattle.script_session.specs.EndOfInput.{LeadsBy}
use Rattle.script_session.specs.States.{HasPipe}

-- a transform that the caller shares: its pipeline is, if it has one
abbrev pub HasLent : Known (BoardEntry Ask) → Option PipelineState → Type 0
HasLent k None = ⊤
HasLent k (Some pipe) = KnowsLent k pipe

abbrev pub AreLent : List Live → Known (BoardEntry Ask) → Type 0
AreLent lives k = All (λ (live : Live). HasLent k live.pipe) lives

-- The caller has shared these transforms' pipelines, in order, and has no other.
pub record SharesAll (lives : List Live) (k l : Known (BoardEntry Ask)) : Type 0 where
  pub calls : List BoardCall
  pub called : Called k l calls
  pub legal : LegalBoard l.seen
  pub leads : LeadsBy (share_all lives) calls []
  pub lent : AreLent lives l
  pub owned : (p : ℕ) → Owns l p → Owns k p
  pub unshut : k.number ≡ 0 → is_shut l.seen ≡ is_shut k.seen

-- The caller has shared a transform's pipeline, if it has one; each other is as it was.
pub record SharesOne (live : Live) (k l : Known (BoardEntry Ask)) : Type 0 where
  pub calls : List BoardCall
  pub called : Called k l calls
  pub legal : LegalBoard l.seen
  pub leads : LeadsBy (shares live.pipe) calls []
  pub lent : HasLent l live.pipe
  pub others : (other : Option PipelineState) → AreApart live.pipe other → HasPipe k other → HasPipe l other
  pub kept : (other : Option PipelineState) → HasLent k other → HasLent l other
  pub owned : (p : ℕ) → Owns l p → Owns k p
  pub unshut : k.number ≡ 0 → is_shut l.seen ≡ is_shut k.seen

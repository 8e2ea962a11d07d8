-- Transforms that several scripts share, and what a line does with one of them.
use Rattle.std.specs.Prelude.{◌≡◌, Bool, List, [], ◌∷◌, ◌++◌, Option, Some, None}
use Rattle.std.specs.Arc.{arc_value}
use Rattle.std.specs.declared.sync.Arc.{Arc}
use Rattle.board.specs.declared.entry.BoardEntry.{BoardEntry}
use Rattle.board.specs.declared.entry.Entered.{Entered}
use Rattle.board.specs.Legal.{is_shut}
use Rattle.transforms.specs.declared.ask.Ask.{Ask}
use Rattle.reply_text.specs.declared.answers.Answer.{Answer}
use Rattle.turn_lock.specs.Turns.{Known}
use Rattle.dialogues.specs.BoardCalls.{BoardCall}
use Rattle.dialogues.specs.Dialogues.{Dialogue}
use Rattle.dialogues.specs.First.{BeginsBy}
use Rattle.dialogues.specs.Transcripts.{IsTranscript}
use Rattle.dialogues.specs.ScriptState.{ScriptState, Live, PipelineState, live_of}
use Rattle.recorded_calls.specs.Pipelines.{Called, entered_asks}
use Rattle.recorded_calls.specs.SharedCalls.{Gave}
use Rattle.script_session.specs.TransformChanges.{counting}
use Rattle.script_session.specs.Offers.{IsAnswerOf, offer_call}
use Rattle.script_session.specs.States.{PipelinesMatch}

-- what a script shares with others, if there are any
abbrev pub shared_in : {Z : Type 0} → Option (Arc (List Live) Z) → List Live
shared_in None = []
shared_in (Some shared) = arc_value shared

-- the shared pipeline gave this answer
abbrev pub OffersShared : Known (BoardEntry Ask) → Known (BoardEntry Ask) → PipelineState → Ask → Bool → Entered → Type 0
OffersShared k l pipe ask backlog answer =
    IsAnswerOf pipe.bound answer × Gave k l (offer_call pipe ask backlog answer pipe.bound ∷ []) (entered_asks ask answer)

-- The dialogue was held with a transform that is shared: this is its transcript for any state of the script that has
-- none of its own under that label.
pub record GivesFor (dialogue : ScriptState → Dialogue) (live : Live) (k l : Known (BoardEntry Ask)) (asks : List Ask) (answers answers' : List Answer) : Type 0 where
  pub calls : List BoardCall
  pub said : List Answer
  pub gave : Gave k l calls asks
  pub is : (script_state : ScriptState) → live_of script_state live.label ≡ None → PipelinesMatch script_state k
      → IsTranscript (dialogue script_state) (record { registry = []; board = calls; answers = said; after = Some (counting script_state asks) })
  pub says : answers' ≡ answers ++ said

-- It was broken off: the calls that were made are the first of it for any state of the script that has none of its own
-- under that label.
pub record StopsGiving (dialogue : ScriptState → Dialogue) (live : Live) (k l : Known (BoardEntry Ask)) : Type 0 where
  pub calls : List BoardCall
  pub called : Called k l calls
  pub unshut : k.number ≡ 0 → is_shut l.seen ≡ is_shut k.seen
  pub begins : (script_state : ScriptState) → live_of script_state live.label ≡ None → PipelinesMatch script_state k → BeginsBy (dialogue script_state) [] calls

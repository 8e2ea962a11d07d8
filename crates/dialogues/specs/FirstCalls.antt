-- Laws: how first calls of dialogues are put together, and what stays of them.
use Rattle.std.specs.Prelude.{ℕ, ◌≡◌, List, [], ◌∷◌, ◌++◌, Option, Some}
use Rattle.alg_registry.specs.declared.entry.RegEntry.{RegEntry}
use Rattle.reply_text.specs.declared.answers.Answer.{Answer}
use Rattle.script_text.specs.declared.commands.Line.{Line}
use Rattle.templates.specs.LookResults.{Found}
use Rattle.dialogues.specs.BoardCalls.{BoardCall}
use Rattle.dialogues.specs.Dialogues.{Dialogue, Says, Asks, Posts, followed}
use Rattle.dialogues.specs.First.{BeginsBy, AreFurther}
use Rattle.dialogues.specs.InTurn.{AsksNothing, AreCalls}
use Rattle.dialogues.specs.Continuations.{Leads}
use Rattle.dialogues.specs.Lines.{lines_dialogue}
use Rattle.dialogues.specs.Questions.{RegQuestion, RegAnswer, BoardQuestion, BoardAnswer, Look, reg_call, board_call}
use Rattle.dialogues.specs.RegistryCalls.{RegCall, Looks, reg_calls, AllSettled}
use Rattle.dialogues.specs.Transcripts.{Transcript, IsTranscript}
use Rattle.dialogues.specs.ScriptState.{ScriptState}

-- ---- of one dialogue

abbrev pub BeginsByNone : Type 0
BeginsByNone = (dialogue : Dialogue) → BeginsBy dialogue [] []

-- a whole turn's calls
abbrev pub BeginsByTurn : Type 0
BeginsByTurn = (dialogue : Dialogue) (turn : Transcript) → IsTranscript dialogue turn → AllSettled turn.registry → BeginsBy dialogue turn.registry turn.board

abbrev pub BeginsSaying : Type 0
BeginsSaying = (answers : List Answer) (next : Dialogue) (r : List RegCall) (b : List BoardCall) → BeginsBy next r b → BeginsBy (Says answers next) r b

abbrev pub BeginsAsking : Type 0
BeginsAsking =
    (question : RegQuestion) (answer : RegAnswer question) (next : RegAnswer question → Dialogue) (r : List RegCall) (b : List BoardCall)
    → BeginsBy (next answer) r b → BeginsBy (Asks question next) (reg_call question answer ∷ r) b

abbrev pub BeginsPosting : Type 0
BeginsPosting =
    (question : BoardQuestion) (answer : BoardAnswer question) (next : BoardAnswer question → Dialogue) (r : List RegCall) (b : List BoardCall)
    → BeginsBy (next answer) r b → BeginsBy (Posts question next) r (board_call question answer ∷ b)

-- ---- of looks

-- a look, whatever it has come to
abbrev pub BeginsLooking : Type 0
BeginsLooking = (text : List ℕ) (found : Option Found) (next : Found → Dialogue) → BeginsBy (Asks (Look text) next) (Looks text found ∷ []) []

-- the dialogue looks all of these up, one after the other, whatever they come to
abbrev pub LooksUp : Dialogue → List (List ℕ) → Type 0
LooksUp dialogue [] = Unit {0}
LooksUp dialogue (text ∷ texts) = (next : Found → Dialogue) × (dialogue ≡ Asks (Look text) next) × ((found : Found) → LooksUp (next found) texts)

-- looks of these, each of which may have come to something
abbrev pub AreLooks : List (List ℕ) → List RegCall → Type 0
AreLooks [] [] = Unit {0}
AreLooks (text ∷ texts) (call ∷ calls) = (found : Option Found) × (call ≡ Looks text found) × AreLooks texts calls
AreLooks texts calls = ⊥

abbrev pub BeginsLookingAll : Type 0
BeginsLookingAll = (dialogue : Dialogue) (texts : List (List ℕ)) (r : List RegCall) → LooksUp dialogue texts → AreLooks texts r → BeginsBy dialogue r []

-- ---- of one dialogue after another

abbrev pub BeginsInFirst : Type 0
BeginsInFirst = (first : Dialogue) (later : ScriptState → Dialogue) (r : List RegCall) (b : List BoardCall) → BeginsBy first r b → BeginsBy (followed first later) r b

abbrev pub BeginsInLater : Type 0
BeginsInLater =
    (first : Dialogue) (later : ScriptState → Dialogue) (turn : Transcript) (script_state : ScriptState) (r : List RegCall) (b : List BoardCall) → IsTranscript first turn
    → turn.after ≡ Some script_state → AllSettled turn.registry → BeginsBy (later script_state) r b
    → BeginsBy (followed first later) (turn.registry ++ r) (turn.board ++ b)

-- first lines, and then further calls
abbrev pub BeginsInLines : Type 0
BeginsInLines =
    (workers : ℕ) (script_state now : ScriptState) (n m : ℕ) (lines left : List Line) (turn : Transcript) (rest : ScriptState → Dialogue) (r : List RegCall) (b : List BoardCall)
    → Leads workers script_state n lines turn now m left → AllSettled turn.registry → BeginsBy (lines_dialogue workers now m left rest) r b
    → BeginsBy (lines_dialogue workers script_state n lines rest) (turn.registry ++ r) (turn.board ++ b)

-- ---- of a history

abbrev pub NoneFurther : Type 0
NoneFurther = (caller : ℕ) (r r' : List RegEntry) → AllSettled (reg_calls caller r) → AsksNothing caller r r' → AreFurther caller [] r r'

-- calls that have come to something, and then further ones
abbrev pub CallsThenFurther : Type 0
CallsThenFurther =
    (caller : ℕ) (calls later : List RegCall) (r m r' : List RegEntry) → AreCalls caller calls r m → AreFurther caller later m r'
    → AreFurther caller (calls ++ later) r r'

-- Where the caller asks nothing more its further calls stay, but that looks may have come to something.
abbrev pub FurtherStay : Type 0
FurtherStay =
    (caller : ℕ) (calls : List RegCall) (r m r' : List RegEntry) → AllSettled (reg_calls caller r) → AreFurther caller calls r m → AsksNothing caller m r'
    → (later : List RegCall) × AreFurther caller later r r' × ((dialogue : Dialogue) (b : List BoardCall) → BeginsBy dialogue calls b → BeginsBy dialogue later b)

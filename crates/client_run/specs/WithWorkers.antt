-- What several scripts at once leave: of the first one's passes, and of the histories at the end.
use Rattle.std.specs.Prelude.{◌≡◌, ◌⊎◌, ℕ, ◌+◌, ◌<◌, ◌≤◌, Bool, ◌||◌, List, [], ◌∷◌, ◌++◌, length, map, reverse, Result, Ok, IfOk, OnOk}
use Rattle.std.specs.List.{list_any, flat_map}
use Rattle.alg_registry.specs.declared.entry.RegEntry.{RegEntry}
use Rattle.alg_registry.specs.Legal.{LegalReg}
use Rattle.alg_registry.specs.Made.{Made}
use Rattle.board.specs.declared.entry.BoardEntry.{BoardEntry}
use Rattle.board.specs.declared.entry.BoardEntry.TheVariants.{Shut}
use Rattle.board.specs.Alone.{PeersGone}
use Rattle.board.specs.Entries.{caller_of as board_caller}
use Rattle.board.specs.Legal.{LegalBoard}
use Rattle.crew.specs.declared.passes.Passes.{Passes}
use Rattle.crew.specs.Peers.{RanBeside}
use Rattle.reply_text.specs.Written.{Written}
use Rattle.script_session.specs.SharedEnd.{EndsFirst}
use Rattle.script_text.specs.declared.commands.Line.{Line}
use Rattle.script_text.specs.Script.{script_of}
use Rattle.recorded_calls.specs.declared.stop.Stop.{Stop}
use Rattle.templates.specs.Table.{table}
use Rattle.transforms.specs.declared.ask.Ask.{Ask}
use Rattle.turn_lock.specs.PassLaws.{IsOwn, AtTurn, Leaves}
use Rattle.turn_lock.specs.Passes.{knows}
use Rattle.turn_lock.specs.Turns.{Known, StartsWith, Has, Shows}
use Rattle.dialogues.specs.ScriptState.{Live}
use Rattle.client_texts.specs.Outputs.{under_headings, IsOutputBy}
use Rattle.client_texts.specs.OneList.{AreOneList, AreCallersBeside}
use Rattle.script_run.specs.Endings.{EndsShut, IsShutOnce}
use Rattle.script_run.specs.Text.{is_malformed}
use Rattle.client_run.specs.declared.with_workers.Output.{Output}
use Rattle.client_run.specs.declared.client.ClientText.{ClientText}
use Rattle.client_run.specs.Parts.{FirstOpens, ClientRan}

-- ---- the first one's passes

module _ {E : Type 0} where
  -- The pass was this when its caller had done all that it did, and this is the history at the lock's end. Between them
  -- workers' passes were joined into it.
  pub record IsHistoryOf (by : E → ℕ) (k : Known E) (log : List E) : Type 0 where
    pub last : Known E
    pub number : last.number ≡ k.number
    pub next : last.next ≡ k.next
    pub made : last.made ≡ k.made
    pub seen : StartsWith last.seen k.seen
    pub ended : StartsWith last.ended k.ended
    pub shows : Shows by last log

  -- The pass gave the workers' numbers and no others, or those of so many clients too: what it passed over has ended
  -- without an entry.
  abbrev pub GaveNumbers : ℕ → ℕ → Known E → Type 0
  GaveNumbers workers clients k =
      (k.next ≡ workers + 1) ⊎ ((k.next ≡ 17 + clients) × ((j : ℕ) → workers + 1 ≤ j → j < 17 → Has (λ x. x ≡ (j, [])) k.ended))

-- The first caller shut the board last, when all but the workers had ended.
pub record HasShutLast {A : Type 0} (k : Known (BoardEntry A)) : Type 0 where
  pub gone : PeersGone k
  pub own : IsOwn board_caller k
  pub before : List (BoardEntry A)
  pub shut : k.seen ≡ before ++ Shut 0 ∷ []

-- what the scripts of so many clients left of the first one's passes, however they ended
pub record HaveLeft (workers clients : ℕ) (q : Passes Ask) : Type 0 where
  pub registry : (knows q.registry).number ≡ 0
  pub gave_registry : GaveNumbers workers clients (knows q.registry)
  pub gave_board : GaveNumbers workers clients (knows q.board)
  pub shut : HasShutLast (knows q.board)

-- the first one has given the workers' numbers
pub record GaveWorkers (workers : ℕ) (p : Passes Ask) : Type 0 where
  pub registry : (knows p.registry).next ≡ workers + 1
  pub board : (knows p.board).next ≡ workers + 1

-- ---- the texts

-- texts one behind the other
abbrev pub in_one : List Written → List ℕ
in_one texts = flat_map (λ (t : Written). t.text) texts

abbrev pub printed_by : Output → List ℕ
printed_by output = in_one output.texts.items

-- the texts of clients, in order
abbrev pub texts_in : List ClientText → List (List ℕ)
texts_in said = map (λ (x : ClientText). x.reply.text) said

abbrev pub is_bad : ClientText → Bool
is_bad x = x.malformed

-- Each client gave a text, the last client's first among these. Their texts were added, each under its heading.
pub record PutsTexts {F : Type 0} (outs : List (Result ClientText F)) (text text' : List ℕ) (bad bad' : Bool) : Type 0 where
  pub said : List ClientText
  pub all : reverse outs ≡ map (λ x. Ok x) said
  pub text_is : text' ≡ text ++ under_headings 1 (texts_in said)
  pub malformed : bad' ≡ bad || list_any is_bad said

-- The texts of all clients were added, and then the first one's script ended whose pass was k and is l now.
pub record EndsRest {F : Type 0} (shared : List Live) (k l : Known (BoardEntry Ask)) (outs : List (Result ClientText F)) (text text' : List ℕ) (bad bad' : Bool) : Type 0 where
  pub said : List ClientText
  pub all : reverse outs ≡ map (λ x. Ok x) said
  pub ends : EndsFirst shared k l (text ++ under_headings 1 (texts_in said)) text'
  pub malformed : bad' ≡ bad || list_any is_bad said

-- The clients ran beside one another from the passes p, and then the first one's script ended: the passes are q now.
-- What all said stands behind the text that there was.
pub record AnswersRest (workers : ℕ) (shared : List Live) (parts : List (List ℕ)) (p q : Passes Ask) (text text' : List ℕ) (bad bad' : Bool) : Type 0 where
  pub rs : List (Passes Ask × Result ClientText Stop)
  pub joined : Passes Ask
  pub ran : RanBeside (λ n p q x. ClientRan workers shared parts n p q x) 17 (length parts) p rs joined
  pub said : List ClientText
  pub all : map (λ r. r.1) rs ≡ map (λ x. Ok x) said
  pub met : Known (BoardEntry Ask)
  pub turn : AtTurn board_caller LegalBoard (knows joined.board) (λ h. Leaves (knows joined.board) h met)
  pub ends : EndsFirst shared met (knows q.board) (text ++ under_headings 1 (texts_in said)) text'
  pub registry : knows q.registry ≡ knows joined.registry
  pub malformed : bad' ≡ bad || list_any is_bad said

-- All parts were answered, and this is what their scripts printed: the passes are q now.
pub record AnswersParts (workers : ℕ) (first : List Line) (parts : List (List ℕ)) (q : Passes Ask) (text : List ℕ) (bad : Bool) : Type 0 where
  pub shared : List Live
  pub opened : Passes Ask
  pub registry_zero : (knows opened.registry).number ≡ 0
  pub board_zero : (knows opened.board).number ≡ 0
  pub opening : List ℕ
  pub bad_first : Bool
  pub opens : FirstOpens workers first shared opened opening bad_first
  pub rest : AnswersRest workers shared parts opened q opening text bad_first bad

-- ---- the histories

-- What the scripts of an input's parts printed, the first part's and one for each client, and the histories that their
-- run left.
pub record PartsRan {F : Type 0} (workers clients : ℕ) (parts : List (List ℕ)) (r : List RegEntry) (b : List (BoardEntry Ask)) (result : Result Output F) : Type 0 where
  pub printed : IfOk result (λ output. IsOutputBy workers (map script_of parts) r b (printed_by output))
  pub malformed : IfOk result (λ output. output.malformed ≡ list_any (list_any is_malformed) (map script_of parts))
  pub shut : OnOk result (EndsShut b)
  pub one_list : OnOk result (AreOneList clients b)
  pub closed : IsShutOnce workers b ⊎ (OnOk result ⊥ × (r ≡ []) × (b ≡ []))
  pub callers : AreCallersBeside workers clients r b
  pub legal : LegalReg r
  pub legal_board : LegalBoard b
  pub faithful : Made table r

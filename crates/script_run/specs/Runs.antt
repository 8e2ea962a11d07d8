-- What a run does to its source and its sink, where these tell their bytes, and to the passes of its script.
use Rattle.std.specs.Prelude.{◌≡◌, ℕ, ◌^◌, ◌<◌, ◌↔◌, ◌⊎◌, Bool, false, List, [], ◌∷◌, ◌++◌, length, Option, Result, IfOk, OnOk}
use Rattle.std.specs.List.{list_any}
use Rattle.std.specs.Io.KnownBytes.{Consumes, Appends, Keeps}
use Rattle.alg_registry.specs.declared.entry.RegEntry.{RegEntry}
use Rattle.alg_registry.specs.Rows.{caller_of as reg_caller}
use Rattle.board.specs.declared.entry.BoardEntry.{BoardEntry}
use Rattle.board.specs.declared.entry.BoardEntry.TheVariants.{Shut}
use Rattle.board.specs.Entries.{entries_of, submissions, front, is_closed, caller_of as board_caller}
use Rattle.board.specs.Legal.{MayManage, is_shut}
use Rattle.crew.specs.declared.passes.Passes.{Passes}
use Rattle.dialogues.specs.Dialogues.{Dialogue}
use Rattle.dialogues.specs.InTurn.{AreInTurnBy}
use Rattle.dialogues.specs.RegistryCalls.{reg_calls}
use Rattle.dialogues.specs.Texts.{IsText}
use Rattle.script_run.specs.ByLines.{IsTextByLines}
use Rattle.script_run.specs.Fronts.{IsFrontText}
use Rattle.dialogues.specs.ScriptState.{start}
use Rattle.dialogues.specs.Widths.{widest}
use Rattle.kc_base.specs.Streams.{AppendsFront, IsPrefix}
use Rattle.script_session.specs.EndOfInput.{AnswersEnd, EndsShut}
use Rattle.script_session.specs.PerformedDialogue.{HasSeenMore, StopsIn}
use Rattle.script_session.specs.States.{State, SameLocks}
use Rattle.script_text.specs.declared.commands.Line.{Line}
use Rattle.recorded_calls.specs.Passes.{known}
use Rattle.transforms.specs.declared.ask.Ask.{Ask}
use Rattle.turn_lock.specs.PassLaws.{IsOwn}
use Rattle.turn_lock.specs.Passes.{knows}
use Rattle.turn_lock.specs.Turns.{Known, StartsWith, of}
use Rattle.script_run.specs.Text.{is_malformed}

-- ---- streams

-- Some bytes were read, and there are more than 2 ^ 28 of them exactly where this holds.
abbrev pub ReadsUpTo : Option (List ℕ) → Option (List ℕ) → Type 0 → Type 0
ReadsUpTo old new is_too_long = (part : List ℕ) × Consumes old new part × (is_too_long ↔ (2 ^ 28 < length part))

-- the sink has gained bytes of which this holds
abbrev pub Gains : Option (List ℕ) → Option (List ℕ) → (List ℕ → Type 0) → Type 0
Gains old new P = (gained : List ℕ) × P gained × Appends old new gained

-- the sink has gained bytes of which this holds, and after them the trace
abbrev pub GainsThen : Option (List ℕ) → Option (List ℕ) → (List ℕ → Type 0) → List ℕ → Type 0
GainsThen old new P trace = (gained : List ℕ) × P gained × Appends old new (gained ++ trace)

-- a front of a text, or the whole of it and a front of the trace
abbrev pub GainsFront : Option (List ℕ) → Option (List ℕ) → (List ℕ → Type 0) → (List ℕ → Type 0) → List ℕ → Type 0
GainsFront old new IsFront IsWhole trace = Gains old new IsFront ⊎ ((front : List ℕ) × IsPrefix front trace × GainsThen old new IsWhole front)

-- ---- how what passes know goes on

-- the session's passes are of the same locks, and have seen more
pub record GoesOn (s s' : State) : Type 0 where
  pub locks : SameLocks s s'
  pub registry : HasSeenMore (known s.registry) (known s'.registry)
  pub board : HasSeenMore (known s.board) (known s'.board)

-- before its first line, as client 0 and caller 0 of both locks
pub record IsFresh (s : State) : Type 0 where
  pub script_state : s.script_state ≡ start 0
  pub registry : ((known s.registry).number ≡ 0) × ((known s.registry).seen ≡ [])
  pub board : ((known s.board).number ≡ 0) × ((known s.board).seen ≡ [])

-- the history is what the pass has seen, and after it entries of others alone
abbrev pub OthersFollow : {E : Type 0} → (E → ℕ) → Known E → List E → Type 0
OthersFollow {E} by k h = (rest : List E) × (h ≡ k.seen ++ rest) × (of by k.number rest ≡ [])

-- ---- what is written

-- such a reply was made, and written whole
abbrev pub Writes : (List ℕ → Type 0) → Option (List ℕ) → Option (List ℕ) → Type 0
Writes IsReply held held' = (reply : List ℕ) × IsReply reply × Appends held held' reply

-- such a reply was made, and written in part
abbrev pub Cuts : (List ℕ → Type 0) → Option (List ℕ) → Option (List ℕ) → Type 0
Cuts IsReply held held' = (reply : List ℕ) × IsReply reply × AppendsFront held held' reply

-- the session stopped in the dialogue, and nothing was written; or such a reply was made, and written in part
abbrev pub Breaks : Dialogue → State → State → (List ℕ → Type 0) → Option (List ℕ) → Option (List ℕ) → Type 0
Breaks dialogue s s' IsReply held held' = (StopsIn dialogue s s' × Keeps held held') ⊎ Cuts IsReply held held'

-- the answers to the end of input, after which the board was shut last
abbrev pub AnswersAndShuts : State → State → List ℕ → Type 0
AnswersAndShuts s s' reply = EndsShut (known s'.board) × AnswersEnd s s' [] reply

-- ---- the text, however the histories go on

-- the script's text over all histories in which others alone follow on what the passes have seen; its calls are in turn
-- there
abbrev pub IsTextAfter : ℕ → List Line → Known RegEntry → Known (BoardEntry Ask) → List ℕ → Type 0
IsTextAfter workers lines k l text =
    (r : List RegEntry) (b : List (BoardEntry Ask)) → OthersFollow reg_caller k r → OthersFollow board_caller l b → IsText workers (start 0) 0 lines r b text

-- the text of first lines, and maybe a front of what one more prints, over all histories that begin with what the
-- passes have seen
abbrev pub IsByLinesAfter : ℕ → List Line → Known RegEntry → Known (BoardEntry Ask) → List ℕ → Type 0
IsByLinesAfter workers lines k l text =
    (r : List RegEntry) (b : List (BoardEntry Ask)) → StartsWith r k.seen → StartsWith b l.seen → IsTextByLines workers lines r b text

-- a front of the text over all histories that begin with what the passes have seen
abbrev pub IsFrontAfter : ℕ → List Line → Known RegEntry → Known (BoardEntry Ask) → List ℕ → Type 0
IsFrontAfter workers lines k l text =
    (r : List RegEntry) (b : List (BoardEntry Ask)) → StartsWith r k.seen → StartsWith b l.seen → IsFrontText workers (start 0) 0 lines r b text

-- The script made its calls of the registry one after the other, each when the one before had come to something; with
-- as many looks at once as one of its probes has names.
abbrev pub InTurn : List Line → List RegEntry → Type 0
InTurn lines r = AreInTurnBy (widest lines) 0 (reg_calls 0 r) [] r

abbrev pub InTurnAfter : List Line → Known RegEntry → Type 0
InTurnAfter lines k = (r : List RegEntry) → OthersFollow reg_caller k r → InTurn lines r

-- the session hasn't shut the board, or has done so last
abbrev pub IsUnshutOrEnds : Known (BoardEntry Ask) → Type 0
IsUnshutOrEnds k = (is_shut k.seen ≡ false) ⊎ EndsShut k

-- The script shut the board. Since then others alone made entries.
pub record WasShut (b : List (BoardEntry Ask)) : Type 0 where
  pub before : List (BoardEntry Ask)
  pub after : List (BoardEntry Ask)
  pub history : b ≡ before ++ Shut 0 ∷ after
  pub others : of board_caller 0 after ≡ []

-- The board was shut when each request was finished of each pipeline that the script made and hadn't closed. Since then
-- others alone made entries.
pub record IsShutIn (b : List (BoardEntry Ask)) : Type 0 where
  pub before : List (BoardEntry Ask)
  pub after : List (BoardEntry Ask)
  pub history : b ≡ before ++ Shut 0 ∷ after
  pub others : of board_caller 0 after ≡ []
  pub finished : (p : ℕ) → MayManage (entries_of p before) 0 → is_closed (entries_of p before) ≡ false → front (entries_of p before) ≡ length (submissions (entries_of p before))

-- ---- a script's part beside workers

-- passes that have seen nothing
pub record AreNew (p : Passes Ask) : Type 0 where
  pub registry : ((knows p.registry).number ≡ 0) × ((knows p.registry).seen ≡ []) × ((knows p.registry).made ≡ [])
  pub board : ((knows p.board).number ≡ 0) × ((knows p.board).seen ≡ []) × ((knows p.board).made ≡ [])

-- What a script or a load has done whose passes were p and are now q: both have seen more, and it shut the board.
pub record HasShut (p q : Passes Ask) : Type 0 where
  pub registry : HasSeenMore (knows p.registry) (knows q.registry)
  pub board : HasSeenMore (knows p.board) (knows q.board)
  pub own : IsOwn board_caller (knows q.board)
  pub shut : WasShut (knows q.board).seen

-- what a script that reached its end has written
pub record Ended (workers : ℕ) (lines : List Line) (p : Passes Ask) (held held' : Option (List ℕ)) : Type 0 where
  pub text : Gains held held' (IsTextAfter workers lines (knows p.registry) (knows p.board))
  pub in_turn : InTurnAfter lines (knows p.registry)
  pub own : IsOwn reg_caller (knows p.registry)
  pub shut : IsShutIn (knows p.board).seen

-- What a script has done whose passes were p and are now q, and whether a line was malformed, if it reached its end.
pub record Answers {F : Type 0} (workers : ℕ) (lines : List Line) (p q : Passes Ask) (result : Result Bool F) (held held' : Option (List ℕ)) : Type 0 where
  pub part : HasShut p q
  pub front : Gains held held' (IsFrontAfter workers lines (knows q.registry) (knows q.board))
  pub by_lines : Gains held held' (IsByLinesAfter workers lines (knows q.registry) (knows q.board))
  pub ended : OnOk result (Ended workers lines q held held')
  pub malformed : IfOk result (λ bad. bad ≡ list_any is_malformed lines)

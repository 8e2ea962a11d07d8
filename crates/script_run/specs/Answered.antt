-- Lines that are answered before more is read.
use Rattle.std.specs.Prelude.{◌≡◌, ◌↔◌, ◌⊎◌, ℕ, ◌-◌, ◌^◌, ◌<◌, ◌≤◌, Bool, List, [], ◌∷◌, ◌++◌, length, take, Option, Some, None, Result, IsSome, OnOk, IfOk, IsErrOf}
use Rattle.std.specs.List.{list_any}
use Rattle.std.specs.Io.KnownBytes.{Consumes, IsAtEnd}
use Rattle.alg_registry.specs.declared.entry.RegEntry.{RegEntry}
use Rattle.alg_registry.specs.Rows.{caller_of as reg_caller}
use Rattle.board.specs.declared.entry.BoardEntry.{BoardEntry}
use Rattle.board.specs.declared.entry.BoardEntry.TheVariants.{Shut}
use Rattle.board.specs.Entries.{caller_of as board_caller}
use Rattle.crew.specs.declared.passes.Passes.{Passes}
use Rattle.dialogues.specs.BoardCalls.{BoardCall, Shuts, board_calls}
use Rattle.dialogues.specs.Dialogues.{Dialogue, Ends}
use Rattle.dialogues.specs.First.{BeginsBy}
use Rattle.dialogues.specs.Lines.{lines_dialogue, script}
use Rattle.dialogues.specs.RegistryCalls.{RegCall, reg_calls, AllSettled}
use Rattle.dialogues.specs.Texts.{IsText}
use Rattle.dialogues.specs.Transcripts.{Transcript, transcript_of, text_in}
use Rattle.dialogues.specs.ScriptState.{start}
use Rattle.kc_base.specs.Streams.{IsPrefix}
use Rattle.script_session.specs.EndOfInput.{EndsShut}
use Rattle.script_session.specs.States.{State}
use Rattle.script_text.specs.declared.commands.Line.{Line}
use Rattle.script_text.specs.Script.{script_of}
use Rattle.script_text.specs.Whole.{whole_script}
use Rattle.recorded_calls.specs.Passes.{known}
use Rattle.transforms.specs.declared.ask.Ask.{Ask}
use Rattle.turn_lock.specs.PassLaws.{IsOwn}
use Rattle.turn_lock.specs.Passes.{knows}
use Rattle.turn_lock.specs.Turns.{Known, StartsWith, of}
use Rattle.script_run.specs.declared.errors.RunError.{RunError}
use Rattle.script_run.specs.declared.errors.RunError.TheVariants.{ReadFault, WriteFault, NoMemory, TooLong}
use Rattle.script_run.specs.ByLines.{LinesTell}
use Rattle.script_run.specs.Runs.{Gains, GoesOn, OthersFollow, IsTextAfter, IsFrontAfter, IsByLinesAfter, InTurnAfter, IsUnshutOrEnds, Answers}
use Rattle.script_run.specs.Text.{is_malformed}

-- the turn that the script's calls in the histories make of its first lines
abbrev pub lines_transcript : ℕ → List Line → List RegEntry → List (BoardEntry Ask) → Transcript
lines_transcript workers lines r b = transcript_of (lines_dialogue workers (start 0) 1 lines Ends) (reg_calls 0 r) (board_calls 0 b)

-- nothing more than that the board was shut
abbrev pub IsShutAlone : List BoardCall → Type 0
IsShutAlone calls = (calls ≡ []) ⊎ (calls ≡ Shuts ∷ [])

-- These lines are answered whole, and this is their text: the histories hold their calls, each of which has come to
-- something, and beside the shut of the board no further ones of the script.
pub record AreAnswered (workers : ℕ) (lines : List Line) (r : List RegEntry) (b : List (BoardEntry Ask)) (text : List ℕ) : Type 0 where
  pub registry : (lines_transcript workers lines r b).registry ≡ reg_calls 0 r
  pub settled : AllSettled (reg_calls 0 r)
  pub board : (more : List BoardCall) × ((lines_transcript workers lines r b).board ++ more ≡ board_calls 0 b) × IsShutAlone more
  pub ended : IsSome (lines_transcript workers lines r b).after
  pub text_is : text ≡ text_in (lines_transcript workers lines r b)

-- The first calls of the script in the histories are those of these lines, and the text begins with what they print.
pub record BeginsWithText (workers : ℕ) (lines : List Line) (r : List RegEntry) (b : List (BoardEntry Ask)) (text : List ℕ) : Type 0 where
  pub registry : (more : List RegCall) × ((lines_transcript workers lines r b).registry ++ more ≡ reg_calls 0 r)
  pub board : (more : List BoardCall) × ((lines_transcript workers lines r b).board ++ more ≡ board_calls 0 b)
  pub ended : IsSome (lines_transcript workers lines r b).after
  pub front : IsPrefix (text_in (lines_transcript workers lines r b)) text

-- ---- where a write failed

-- These lines are answered. Of the last one a front is written, and all of those before it.
pub record CutInLine (AreAll : List Line → List ℕ → Type 0) (BeginsWith : List Line → List ℕ → Type 0) (lines : List Line) (text : List ℕ) : Type 0 where
  pub first : List Line
  pub last : Line
  pub left : List Line
  pub lines_are : lines ≡ (first ++ last ∷ []) ++ left
  pub whole : List ℕ
  pub answered : AreAll (first ++ last ∷ []) whole
  pub begins : BeginsWith first text
  pub front : IsPrefix text whole

-- All lines and the end of input are answered. Of the end a front is written, and all of the lines.
pub record CutInEnd (IsWhole : List ℕ → Type 0) (BeginsWith : List Line → List ℕ → Type 0) (lines : List Line) (text : List ℕ) : Type 0 where
  pub whole : List ℕ
  pub is_whole : IsWhole whole
  pub begins : BeginsWith lines text
  pub front : IsPrefix text whole

-- The text was cut off in a line, or at the end of input. The script made the calls of what is answered, and no others
-- but the shut.
abbrev pub IsCutOff : ℕ → List Line → List RegEntry → List (BoardEntry Ask) → List ℕ → Type 0
IsCutOff workers lines r b text =
    CutInLine (λ first. AreAnswered workers first r b) (λ first. BeginsWithText workers first r b) lines text
    ⊎ CutInEnd (IsText workers (start 0) 0 lines r b) (λ first. BeginsWithText workers first r b) lines text

-- ---- where memory lacked

-- The script has made first calls of this dialogue, and beside the shut of the board no others.
pub record MakesFirst (dialogue : Dialogue) (r : List RegEntry) (b : List (BoardEntry Ask)) : Type 0 where
  pub board : List BoardCall
  pub more : List BoardCall
  pub calls_are : board_calls 0 b ≡ board ++ more
  pub shut : IsShutAlone more
  pub begins : BeginsBy dialogue (reg_calls 0 r) board

-- lines with the next one of these, or with the end of input where none is left
abbrev pub lines_and_next : ℕ → List Line → List Line → Dialogue
lines_and_next workers first [] = script workers (start 0) first
lines_and_next workers first (line ∷ left) = lines_dialogue workers (start 0) 1 (first ++ line ∷ []) Ends

-- First lines are answered, and their text is written. The next line, or the end of input, isn't answered: the calls
-- are such.
pub record StopsBehind (Tells : List Line → List ℕ → Type 0) (Calls : List Line → List Line → Type 0) (lines : List Line) (text : List ℕ) : Type 0 where
  pub first : List Line
  pub left : List Line
  pub lines_are : lines ≡ first ++ left
  pub tells : Tells first text
  pub calls : Calls first left

-- The script has made the calls of first lines, and first calls of what comes next.
abbrev pub IsStopped : ℕ → List Line → List RegEntry → List (BoardEntry Ask) → List ℕ → Type 0
IsStopped workers lines r b text =
    StopsBehind (λ first. LinesTell workers first r b) (λ first left. MakesFirst (lines_and_next workers first left) r b) lines text

-- The text was cut off in a line, or at the end of input, as where a write failed; or it is that of first lines.
abbrev pub IsBrokenOff : ℕ → List Line → List RegEntry → List (BoardEntry Ask) → List ℕ → Type 0
IsBrokenOff workers lines r b text = IsCutOff workers lines r b text ⊎ IsStopped workers lines r b text

-- so is nothing, where nothing happened
abbrev pub NothingIsBrokenOff : Type 0
NothingIsBrokenOff = (workers : ℕ) (lines : List Line) → IsBrokenOff workers lines [] [] []

-- ---- a source

-- the source has given bytes of which this holds
abbrev pub Gives : Option (List ℕ) → Option (List ℕ) → (List ℕ → Type 0) → Type 0
Gives old new P = (given : List ℕ) × P given × Consumes old new given

-- the script that a source tells, or else what it gave
abbrev pub script_in : Option (List ℕ) → List ℕ → List ℕ
script_in None given = given
script_in (Some whole) given = whole

-- ---- the same, however the histories go on

-- where others alone follow on what the passes have seen, and the board is shut
abbrev pub AreAnsweredAfter : ℕ → List Line → Known RegEntry → Known (BoardEntry Ask) → List ℕ → Type 0
AreAnsweredAfter workers lines k l text =
    (r : List RegEntry) (b : List (BoardEntry Ask)) (more : List BoardCall) → OthersFollow reg_caller k r → board_calls 0 b ≡ board_calls 0 l.seen ++ more → IsShutAlone more
    → AreAnswered workers lines r b text

abbrev pub BeginsWithTextAfter : ℕ → List Line → Known RegEntry → Known (BoardEntry Ask) → List ℕ → Type 0
BeginsWithTextAfter workers lines k l text =
    (r : List RegEntry) (b : List (BoardEntry Ask)) → StartsWith r k.seen → StartsWith b l.seen → BeginsWithText workers lines r b text

-- of a session: the board is shut after its lines, or it has shut it last
abbrev pub IsCutOffAfter : ℕ → List Line → Known RegEntry → Known (BoardEntry Ask) → List ℕ → Type 0
IsCutOffAfter workers lines k l text =
    CutInLine (λ first. AreAnsweredAfter workers first k l) (λ first. BeginsWithTextAfter workers first k l) lines text
    ⊎ (EndsShut l × CutInEnd (IsTextAfter workers lines k l) (λ first. BeginsWithTextAfter workers first k l) lines text)

-- where others alone follow
abbrev pub AreAnsweredOn : ℕ → List Line → Known RegEntry → Known (BoardEntry Ask) → List ℕ → Type 0
AreAnsweredOn workers lines k l text =
    (r : List RegEntry) (b : List (BoardEntry Ask)) → OthersFollow reg_caller k r → OthersFollow board_caller l b → AreAnswered workers lines r b text

abbrev pub IsCutOffOn : ℕ → List Line → Known RegEntry → Known (BoardEntry Ask) → List ℕ → Type 0
IsCutOffOn workers lines k l text =
    CutInLine (λ first. AreAnsweredOn workers first k l) (λ first. BeginsWithTextAfter workers first k l) lines text
    ⊎ CutInEnd (IsTextAfter workers lines k l) (λ first. BeginsWithTextAfter workers first k l) lines text

-- ---- the same where memory lacked

abbrev pub LinesTellAfter : ℕ → List Line → Known RegEntry → Known (BoardEntry Ask) → List ℕ → Type 0
LinesTellAfter workers lines k l text =
    (r : List RegEntry) (b : List (BoardEntry Ask)) → StartsWith r k.seen → StartsWith b l.seen → LinesTell workers lines r b text

-- where others alone follow on what the passes have seen, and the board is shut; and where others alone follow
abbrev pub MakesFirstAfter : Dialogue → Known RegEntry → Known (BoardEntry Ask) → Type 0
MakesFirstAfter dialogue k l =
    (r : List RegEntry) (b : List (BoardEntry Ask)) (more : List BoardCall) → OthersFollow reg_caller k r → board_calls 0 b ≡ board_calls 0 l.seen ++ more → IsShutAlone more
    → MakesFirst dialogue r b

abbrev pub MakesFirstOn : Dialogue → Known RegEntry → Known (BoardEntry Ask) → Type 0
MakesFirstOn dialogue k l =
    (r : List RegEntry) (b : List (BoardEntry Ask)) → OthersFollow reg_caller k r → OthersFollow board_caller l b → MakesFirst dialogue r b

abbrev pub IsStoppedAfter : ℕ → List Line → Known RegEntry → Known (BoardEntry Ask) → List ℕ → Type 0
IsStoppedAfter workers lines k l text =
    StopsBehind (λ first. LinesTellAfter workers first k l) (λ first left. MakesFirstAfter (lines_and_next workers first left) k l) lines text

abbrev pub IsBrokenOffAfter : ℕ → List Line → Known RegEntry → Known (BoardEntry Ask) → List ℕ → Type 0
IsBrokenOffAfter workers lines k l text = IsCutOffAfter workers lines k l text ⊎ IsStoppedAfter workers lines k l text

abbrev pub IsBrokenOffOn : ℕ → List Line → Known RegEntry → Known (BoardEntry Ask) → List ℕ → Type 0
IsBrokenOffOn workers lines k l text =
    IsCutOffOn workers lines k l text
    ⊎ StopsBehind (λ first. LinesTellAfter workers first k l) (λ first left. MakesFirstOn (lines_and_next workers first left) k l) lines text

-- a pass has seen entries of others, and then maybe the shut of the board, its own
abbrev pub ShutsAlone : (BoardEntry Ask → ℕ) → Known (BoardEntry Ask) → Known (BoardEntry Ask) → Type 0
ShutsAlone by k l =
    (others : List (BoardEntry Ask)) × (of by k.number others ≡ []) × ((l.seen ≡ k.seen ++ others) ⊎ (l.seen ≡ (k.seen ++ others) ++ Shut k.number ∷ []))

-- ---- what a source gave

-- What was written of the lines in these bytes where the source failed, gave too much, or the sink failed: the text of
-- such as were answered, or one that begins with theirs. So it does where all is written.
pub record AnswersFirst (AreAll : List Line → List ℕ → Type 0) (BeginsWith : List Line → List ℕ → Type 0) (given : List ℕ) (result : Result Bool RunError) (held held' : Option (List ℕ)) : Type 0 where
  pub failed : IsErrOf result ReadFault → Gains held held' (AreAll (whole_script given))
  pub too_long : IsErrOf result TooLong ↔ (2 ^ 28 < length given)
  pub up_to : IsErrOf result TooLong → (m : ℕ) × (2 ^ 28 - 65535 ≤ m) × (m ≤ 2 ^ 28) × Gains held held' (AreAll (whole_script (take m given)))
  pub written : IsErrOf result WriteFault → Gains held held' (BeginsWith (whole_script (take (length given - 65536) given)))
  pub whole : OnOk result (Gains held held' (BeginsWith (whole_script (take (length given - 65536) given))))

-- what was read
pub record HasRead (left left' : Option (List ℕ)) (given : List ℕ) (result : Result Bool RunError) : Type 0 where
  pub read : Consumes left left' given
  pub at_end : OnOk result (IsAtEnd left')

-- What a session has done with lines, of which a source gave these bytes.
pub record RunsLines (lines : List Line) (given : List ℕ) (s s' : State) (result : Result Bool RunError) (held held' : Option (List ℕ)) : Type 0 where
  pub goes_on : GoesOn s s'
  pub front : Gains held held' (IsFrontAfter s.workers lines (known s'.registry) (known s'.board))
  pub by_lines : Gains held held' (IsByLinesAfter s.workers lines (known s'.registry) (known s'.board))
  pub whole : OnOk result (Gains held held' (IsTextAfter s.workers lines (known s'.registry) (known s'.board)))
  pub in_turn : OnOk result (InTurnAfter lines (known s'.registry))
  pub own : OnOk result (IsOwn reg_caller (known s'.registry))
  pub shut : OnOk result (EndsShut (known s'.board))
  pub unshut : IsUnshutOrEnds (known s'.board)
  pub malformed : IfOk result (λ bad. bad ≡ list_any is_malformed lines)
  pub first : AnswersFirst (λ first. AreAnsweredAfter s.workers first (known s'.registry) (known s'.board)) (λ first. BeginsWithTextAfter s.workers first (known s'.registry) (known s'.board)) given result held held'
  pub own_reads : IsErrOf result ReadFault ⊎ IsErrOf result TooLong → IsOwn reg_caller (known s'.registry)
  pub cut : IsErrOf result WriteFault → IsOwn reg_caller (known s'.registry) × Gains held held' (IsCutOffAfter s.workers lines (known s'.registry) (known s'.board))
  pub broken : IsErrOf result NoMemory → IsOwn reg_caller (known s'.registry) × Gains held held' (IsBrokenOffAfter s.workers lines (known s'.registry) (known s'.board))

pub record RunsSource (left left' : Option (List ℕ)) (s s' : State) (result : Result Bool RunError) (held held' : Option (List ℕ)) : Type 0 where
  pub given : List ℕ
  pub reads : HasRead left left' given result
  pub lines : RunsLines (script_of (script_in left given)) given s s' result held held'

-- What a script that a source gave has done whose passes were p and are now q.
pub record AnswersSource (workers : ℕ) (left left' : Option (List ℕ)) (p q : Passes Ask) (result : Result Bool RunError) (held held' : Option (List ℕ)) : Type 0 where
  pub given : List ℕ
  pub reads : HasRead left left' given result
  pub answers : Answers workers (script_of (script_in left given)) p q result held held'
  pub first : AnswersFirst (λ first. AreAnsweredOn workers first (knows q.registry) (knows q.board)) (λ first. BeginsWithTextAfter workers first (knows q.registry) (knows q.board)) given result held held'
  pub own_reads : IsErrOf result ReadFault ⊎ IsErrOf result TooLong → IsOwn reg_caller (knows q.registry)
  pub cut : IsErrOf result WriteFault → IsOwn reg_caller (knows q.registry) × Gains held held' (IsCutOffOn workers (script_of (script_in left given)) (knows q.registry) (knows q.board))
  pub broken : IsErrOf result NoMemory → IsOwn reg_caller (knows q.registry) × Gains held held' (IsBrokenOffOn workers (script_of (script_in left given)) (knows q.registry) (knows q.board))

-- The histories have what was answered of the bytes that a source gave.
pub record RanSource (workers : ℕ) (left left' : Option (List ℕ)) (r : List RegEntry) (b : List (BoardEntry Ask)) (result : Result Bool RunError) (held held' : Option (List ℕ)) : Type 0 where
  pub given : List ℕ
  pub reads : HasRead left left' given result
  pub first : AnswersFirst (λ first. AreAnswered workers first r b) (λ first. BeginsWithText workers first r b) given result held held'

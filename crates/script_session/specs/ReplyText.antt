-- Text that goes straight into a reply, and the room that is taken for it first.
use Rattle.std.specs.Prelude.{ℕ, ◌+◌, ◌*◌, ◌≡◌, Bool, true, false, List, [], ◌++◌, filter, length, map}
use Rattle.std.specs.List.{flat_map}
use Rattle.kc_base.specs.declared.callback_list.Callback.{Callback}
use Rattle.board.specs.declared.entry.BoardEntry.{BoardEntry}
use Rattle.board.specs.Allowance.{accepted_by}
use Rattle.board.specs.Legal.{is_shut}
use Rattle.script_text.specs.declared.commands.Command.TheVariants.{Poll, Drain}
use Rattle.script_text.specs.declared.commands.Line.{Line}
use Rattle.script_text.specs.declared.commands.Line.TheVariants.{Cmd}
use Rattle.transforms.specs.declared.ask.Ask.{Ask}
use Rattle.transforms.specs.declared.request.Finished.{Finished}
use Rattle.reply_text.specs.Answers.{text_of}
use Rattle.reply_text.specs.declared.answers.Answer.{Answer}
use Rattle.reply_text.specs.declared.answers.Answer.TheVariants as said
use Rattle.turn_lock.specs.Turns.{Known}
use Rattle.dialogues.specs.BoardCalls.{BoardCall, Collects}
use Rattle.dialogues.specs.Dialogues.{Dialogue}
use Rattle.dialogues.specs.PipelineCommands.{poll, drain, notice_said}
use Rattle.dialogues.specs.ScriptState.{ScriptState, Live, PipelineState}
use Rattle.recorded_calls.specs.Bounds.{AreWithin, callback_length}
use Rattle.recorded_calls.specs.Passes.{known}
use Rattle.recorded_calls.specs.Pipelines.{Called, Polled}
use Rattle.script_session.specs.TransformChanges.{PerformsFor}
use Rattle.script_session.specs.EndOfInput.{Moves, MovesAll}
use Rattle.script_session.specs.PerformedDialogue.{PerformsBy, StopsIn}
use Rattle.script_session.specs.States.{State}

-- ---- room

-- The text of a callback is no longer: a client and a line of ten digits each with a dot between them, a word of four
-- to seven letters and an error's name of seven or two digits a byte, with a blank between each two and a line feed.
abbrev pub callback_room : Callback Finished → ℕ
callback_room callback = 36 + 2 * callback_length callback

-- a line that collects
abbrev pub hands_out : Line → Bool
hands_out (Cmd (Poll label)) = true
hands_out (Cmd (Drain label)) = true
hands_out other = false

-- ---- `drain T` and `poll T`

-- `drain T` waits for what isn't done, and `poll T` doesn't
abbrev pub collects : Bool → ScriptState → ℕ → List ℕ → Dialogue
collects true script_state n label = drain script_state n label
collects false script_state n label = poll script_state n label

-- their last answer
abbrev pub collected_said : ℕ → Bool → ℕ → Answer
collected_said n true count = said.Drained n count
collected_said n false count = said.Polled n count

-- The caller collected these callbacks, and they were added to those that were there. A drain collects when all is
-- done.
pub record Collected (waits : Bool) (k l : Known (BoardEntry Ask)) (pipe : PipelineState) (had has : List (Callback Finished)) : Type 0 where
  pub callbacks : List (Callback Finished)
  pub all : Bool
  pub whole : waits ≡ true → all ≡ true
  pub added : has ≡ had ++ callbacks
  pub polled : Polled k l pipe callbacks all
  pub within : AreWithin (length pipe.lines) (accepted_by k.number k.seen) callbacks

-- ---- what a line adds

-- the dialogue was held with one transform, and the text of its answers was added
pub record SaysFor (dialogue : ScriptState → Dialogue) (live live' : Live) (k l : Known (BoardEntry Ask)) (text text' : List ℕ) : Type 0 where
  pub said : List Answer
  pub held : PerformsFor dialogue live live' k l [] [] said
  pub says : text' ≡ text ++ flat_map text_of said

-- the caller made no call, and nothing was added
pub record BreaksFor (k l : Known (BoardEntry Ask)) (text text' : List ℕ) : Type 0 where
  pub called : Called k l []
  pub unshut : k.number ≡ 0 → is_shut l.seen ≡ is_shut k.seen
  pub says : text' ≡ text

-- the same two of a session's states
pub record SaysBy (width : ℕ) (dialogue : Dialogue) (s s' : State) (text text' : List ℕ) : Type 0 where
  pub said : List Answer
  pub held : PerformsBy width dialogue s s' [] said
  pub says : text' ≡ text ++ flat_map text_of said

pub record BreaksOff (dialogue : Dialogue) (s s' : State) (text text' : List ℕ) : Type 0 where
  pub stops : StopsIn dialogue s s'
  pub called : Called (known s.board) (known s'.board) []
  pub says : text' ≡ text

-- ---- what the end of input adds

-- the part of the dialogue was held with one transform, and with all of them, and the text of its answers was added
pub record SaysMove (dialogue : Dialogue → Dialogue) (live live' : Live) (k l : Known (BoardEntry Ask)) (text text' : List ℕ) : Type 0 where
  pub said : List Answer
  pub moves : Moves dialogue live live' k l [] said
  pub says : text' ≡ text ++ flat_map text_of said

pub record SaysMoves (dialogue : Dialogue → Dialogue) (lives lives' : List Live) (k l : Known (BoardEntry Ask)) (text text' : List ℕ) : Type 0 where
  pub said : List Answer
  pub moves : MovesAll dialogue lives lives' k l [] said
  pub says : text' ≡ text ++ flat_map text_of said

-- an answer that tells of a request after its own line
abbrev pub is_told : Answer → Bool
is_told (said.Started of) = true
is_told (said.Done of made) = true
is_told (said.Failed of errno) = true
is_told other = false

-- the answers that a call hands out
abbrev pub call_says : BoardCall → List Answer
call_says (Collects pipe collected) = map notice_said collected.notices
call_says other = []

-- Between what the caller knew before and after, what these answers tell is what its collects handed out, in order.
pub record Tells (k l : Known (BoardEntry Ask)) (answers : List Answer) : Type 0 where
  pub calls : List BoardCall
  pub called : Called k l calls
  pub whole : filter is_told answers ≡ flat_map call_says calls

-- and the text of the answers was added
pub record SaysTold (k l : Known (BoardEntry Ask)) (text text' : List ℕ) : Type 0 where
  pub said : List Answer
  pub tells : Tells k l said
  pub says : text' ≡ text ++ flat_map text_of said

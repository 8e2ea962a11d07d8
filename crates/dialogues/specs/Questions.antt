-- What a script asks of its registry and of its board, and what may come of it.
use Rattle.std.specs.Prelude.{ℕ, Bool, true, false, List, Option, Some, None}
use Rattle.alg_registry.specs.declared.spec.Spec.{Spec}
use Rattle.alg_registry.specs.declared.entry.Enlisted.{Enlisted}
use Rattle.alg_registry.specs.declared.entry.RefAnswer.{RefAnswer}
use Rattle.alg_registry.specs.declared.listing.ListRow.{ListRow}
use Rattle.board.specs.declared.entry.Entered.{Entered}
use Rattle.board.specs.declared.entry.Shape.{Shape}
use Rattle.templates.specs.LookResults.{Found}
use Rattle.dialogues.specs.RegistryCalls.{RegCall, Enlists, Looks, Unlists, Gets, Puts, Counts, Lists}
use Rattle.dialogues.specs.BoardCalls.{Asked, BoardCall, Creates, Submits, Enqueues, Holds, Goes, Collects, Closes, Shares, Masks, Shuts, Notice, Collected}

-- ---- what is asked, and what comes of it

pub data RegQuestion : Type 0 where
  Enlist : (spec : Spec) → RegQuestion
  Look : (text : List ℕ) → RegQuestion
  Unlist : (driver : List ℕ) → RegQuestion
  Get : (id : ℕ) → RegQuestion
  Put : (id : ℕ) → RegQuestion
  Count : (driver : List ℕ) → RegQuestion
  ListAll : RegQuestion

abbrev pub RegAnswer : RegQuestion → Type 0
RegAnswer (Enlist spec) = Enlisted
RegAnswer (Look text) = Found
RegAnswer (Unlist driver) = Option ℕ
RegAnswer (Get id) = Bool
RegAnswer (Put id) = Unit {0}
RegAnswer (Count driver) = Option RefAnswer
RegAnswer ListAll = List ListRow

-- the call by which a question gets this answer
abbrev pub reg_call : (question : RegQuestion) → RegAnswer question → RegCall
reg_call (Enlist spec) answer = Enlists spec answer
reg_call (Look text) found = Looks text (Some found)
reg_call (Unlist driver) id = Unlists driver id
reg_call (Get id) ok = Gets id ok
reg_call (Put id) done = Puts id
reg_call (Count driver) answer = Counts driver answer
reg_call ListAll rows = Lists rows

-- the answer that a call has to the question
abbrev pub reg_answer : (question : RegQuestion) → RegCall → Option (RegAnswer question)
reg_answer (Enlist spec) (Enlists of answer) = Some answer
reg_answer (Look text) (Looks of found) = found
reg_answer (Unlist driver) (Unlists of id) = Some id
reg_answer (Get id) (Gets of ok) = Some ok
reg_answer (Put id) (Puts of) = Some tt
reg_answer (Count driver) (Counts of answer) = Some answer
reg_answer ListAll (Lists rows) = Some rows
reg_answer question call = None

-- A drain is a collect before which all is done; a poll is any collect.
pub data BoardQuestion : Type 0 where
  Create : (shape : Shape) → BoardQuestion
  Submit : (pipe : ℕ) → (asked : Asked) → BoardQuestion
  Enqueue : (pipe : ℕ) → (asked : Asked) → (backlog : Bool) → BoardQuestion
  Hold : (pipe : ℕ) → BoardQuestion
  Go : (pipe : ℕ) → BoardQuestion
  Poll : (pipe : ℕ) → BoardQuestion
  Drain : (pipe : ℕ) → BoardQuestion
  Close : (pipe : ℕ) → BoardQuestion
  Share : (pipe : ℕ) → BoardQuestion
  Mask : (pipe : ℕ) → (bits : ℕ) → BoardQuestion
  Shut : BoardQuestion

abbrev pub BoardAnswer : BoardQuestion → Type 0
BoardAnswer (Create shape) = ℕ
BoardAnswer (Submit pipe asked) = ℕ
BoardAnswer (Enqueue pipe asked backlog) = Entered
BoardAnswer (Hold pipe) = Unit {0}
BoardAnswer (Go pipe) = Unit {0}
BoardAnswer (Poll pipe) = Collected
BoardAnswer (Drain pipe) = List Notice
BoardAnswer (Close pipe) = Unit {0}
BoardAnswer (Share pipe) = Unit {0}
BoardAnswer (Mask pipe bits) = Unit {0}
BoardAnswer Shut = Unit {0}

abbrev pub board_call : (question : BoardQuestion) → BoardAnswer question → BoardCall
board_call (Create shape) pipe = Creates pipe shape
board_call (Submit pipe asked) number = Submits pipe number asked
board_call (Enqueue pipe asked backlog) answer = Enqueues pipe asked backlog answer
board_call (Hold pipe) done = Holds pipe
board_call (Go pipe) done = Goes pipe
board_call (Poll pipe) collected = Collects pipe collected
board_call (Drain pipe) notices = Collects pipe (record { notices = notices; all_done = true })
board_call (Close pipe) done = Closes pipe
board_call (Share pipe) done = Shares pipe
board_call (Mask pipe bits) done = Masks pipe bits
board_call Shut done = Shuts

abbrev pub if_all_done : Collected → Bool → Option (List Notice)
if_all_done collected true = Some collected.notices
if_all_done collected false = None

abbrev pub board_answer : (question : BoardQuestion) → BoardCall → Option (BoardAnswer question)
board_answer (Create shape) (Creates pipe of) = Some pipe
board_answer (Submit pipe asked) (Submits of number by) = Some number
board_answer (Enqueue pipe asked backlog) (Enqueues of by leave answer) = Some answer
board_answer (Hold pipe) (Holds of) = Some tt
board_answer (Go pipe) (Goes of) = Some tt
board_answer (Poll pipe) (Collects of collected) = Some collected
board_answer (Drain pipe) (Collects of collected) = if_all_done collected collected.all_done
board_answer (Close pipe) (Closes of) = Some tt
board_answer (Share pipe) (Shares of) = Some tt
board_answer (Mask pipe bits) (Masks of others) = Some tt
board_answer Shut Shuts = Some tt
board_answer question call = None

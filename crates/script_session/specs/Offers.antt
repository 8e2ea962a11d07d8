-- A request that a pipeline answered.
use Rattle.std.specs.Prelude.{ℕ, Bool, [], ◌∷◌, Option, Some, None, ⊤}
use Rattle.kc_base.specs.declared.error_numbers.Errno.TheVariants.{EBUSY, EINPROGRESS, ENOSPC}
use Rattle.board.specs.declared.entry.BoardEntry.{BoardEntry}
use Rattle.board.specs.declared.entry.Entered.{Entered}
use Rattle.board.specs.declared.entry.Entered.TheVariants.{InProgress, Busy, NoSpace}
use Rattle.transforms.specs.declared.ask.Ask.{Ask}
use Rattle.reply_text.specs.declared.answers.Answer.{Answer}
use Rattle.reply_text.specs.declared.answers.Answer.TheVariants.{Refused}
use Rattle.turn_lock.specs.Turns.{Known}
use Rattle.dialogues.specs.BoardCalls.{BoardCall, Submits, Enqueues, asked_by}
use Rattle.dialogues.specs.ScriptState.{PipelineState}
use Rattle.recorded_calls.specs.Pipelines.{Changed, entered_pipe, entered_asks}

-- a pad always takes it
abbrev pub IsAnswerOf : Option ℕ → Entered → Type 0
IsAnswerOf None (InProgress number) = ⊤
IsAnswerOf None (Busy number) = ⊥
IsAnswerOf None NoSpace = ⊥
IsAnswerOf (Some max) answer = ⊤

abbrev pub number_in : Entered → ℕ
number_in (InProgress number) = number
number_in (Busy number) = number
number_in NoSpace = 0

abbrev pub offer_call : PipelineState → Ask → Bool → Entered → Option ℕ → BoardCall
offer_call pipe ask backlog answer None = Submits pipe.number (number_in answer) (asked_by ask)
offer_call pipe ask backlog answer (Some max) = Enqueues pipe.number (asked_by ask) backlog answer

abbrev pub Offered : Known (BoardEntry Ask) → Known (BoardEntry Ask) → PipelineState → Ask → Bool → Entered → Type 0
Offered k l pipe ask backlog answer =
    IsAnswerOf pipe.bound answer × Changed k l pipe (entered_pipe pipe ask answer) (offer_call pipe ask backlog answer pipe.bound ∷ []) (entered_asks ask answer)

-- what a line says of it
abbrev pub entered_said : ℕ → Entered → Answer
entered_said n (InProgress number) = Refused n EINPROGRESS
entered_said n (Busy number) = Refused n EBUSY
entered_said n NoSpace = Refused n ENOSPC

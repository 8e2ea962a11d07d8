-- What the program prints of a text, and the status that it ends with.
use Rattle.std.specs.Prelude.{ℕ, List, ◌++◌, codes}
use Rattle.std.specs.Fmt.{decimal}
use Rattle.trace_check.specs.declared.reason.Reason.{Reason}
use Rattle.trace_check.specs.declared.reason.Reason.TheVariants.{State, Caller, Number, Answer}
use Rattle.trace_check.specs.declared.verdict.TraceVerdict.{TraceVerdict}
use Rattle.trace_check.specs.declared.verdict.TraceVerdict.TheVariants.{Legal, Illegal, NoTrace}

abbrev pub reason_word : Reason → List ℕ
reason_word State = codes "state"
reason_word Caller = codes "caller"
reason_word Number = codes "number"
reason_word Answer = codes "answer"

-- the line of a verdict, without its line feed
abbrev pub said : TraceVerdict → List ℕ
said Legal = codes "legal"
said (Illegal place reason) = (codes "illegal " ++ decimal place ++ codes " ") ++ reason_word reason
said (NoTrace line) = codes "no trace " ++ decimal line

abbrev pub status_of : TraceVerdict → ℕ
status_of Legal = 0
status_of (Illegal place reason) = 1
status_of (NoTrace line) = 2

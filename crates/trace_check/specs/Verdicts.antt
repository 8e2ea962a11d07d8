-- What a text is the trace of, and the verdicts on it.
use Rattle.std.specs.Prelude.{◌≡◌, ℕ, ◌+◌, ◌-◌, ◌≤◌, ◌⊎◌, List, ◌++◌, length, Some}
use Rattle.alg_registry.specs.declared.entry.RegEntry.{RegEntry}
use Rattle.board.specs.declared.entry.BoardEntry.{BoardEntry}
use Rattle.trace_check.specs.declared.lines.AskLine.{AskLine}
use Rattle.alg_registry.specs.Legal.{LegalReg}
use Rattle.board.specs.Legal.{LegalBoard}
use Rattle.trace_check.specs.declared.reason.Reason.{Reason}
use Rattle.trace_check.specs.RegReasons as reg_reasons
use Rattle.trace_check.specs.BoardReasons as board_reasons
use Rattle.trace_text.specs.Trace.{trace_of, AreEvents}
use Rattle.trace_check.specs.declared.verdict.TraceVerdict.{TraceVerdict}
use Rattle.trace_check.specs.declared.verdict.TraceVerdict.TheVariants.{Legal, Illegal, NoTrace}
use Rattle.trace_check.specs.Lines.{origin_of}

-- the text is the trace of these lists
abbrev pub IsTraceOf : List ℕ → List RegEntry → List (BoardEntry AskLine) → Type 0
IsTraceOf text registry board = AreEvents origin_of registry board × (text ≡ trace_of origin_of registry board)

-- it is a trace
abbrev pub IsTrace : List ℕ → Type 0
IsTrace text = (registry : List RegEntry) × (board : List (BoardEntry AskLine)) × IsTraceOf text registry board

-- these lists' trace is a front of the text, with this rest
pub record HasFront (text : List ℕ) (registry : List RegEntry) (board : List (BoardEntry AskLine)) (rest : List ℕ) : Type 0 where
  pub events : AreEvents origin_of registry board
  pub front : text ≡ trace_of origin_of registry board ++ rest

-- it begins with the trace of so many events
abbrev pub BeginsWith : List ℕ → ℕ → Type 0
BeginsWith text count = (registry : List RegEntry) × (board : List (BoardEntry AskLine)) × (rest : List ℕ) × (length registry + length board ≡ count) × HasFront text registry board rest

-- the text is no trace, and this line, counted from 1, is the first that no trace can have there
pub record IsFirstBad (text : List ℕ) (line : ℕ) : Type 0 where
  pub counted : 1 ≤ line
  pub before : BeginsWith text (line - 1)
  pub here : BeginsWith text line → ⊥
  pub none : IsTrace text → ⊥

-- the text is the trace of two legal lists
abbrev pub IsLegalTrace : List ℕ → Type 0
IsLegalTrace text = (registry : List RegEntry) × (board : List (BoardEntry AskLine)) × IsTraceOf text registry board × LegalReg registry × LegalBoard board

-- the place of the first event that isn't right, counted from 0 over both lists, and the first reason that holds of it
abbrev pub IsWrongIn : List RegEntry → List (BoardEntry AskLine) → ℕ → Reason → Type 0
IsWrongIn registry board place reason =
    reg_reasons.IsFirstWrong registry (Some (place, reason))
    ⊎ (LegalReg registry × (length registry ≤ place) × board_reasons.IsFirstWrong board (Some (place - length registry, reason)))

-- a verdict says so
abbrev pub IsVerdict : List ℕ → TraceVerdict → Type 0
IsVerdict text Legal = IsLegalTrace text
IsVerdict text (Illegal place reason) = (registry : List RegEntry) × (board : List (BoardEntry AskLine)) × IsTraceOf text registry board × IsWrongIn registry board place reason
IsVerdict text (NoTrace line) = IsFirstBad text line

-- the same of the lists
abbrev pub AreJudged : List RegEntry → List (BoardEntry AskLine) → TraceVerdict → Type 0
AreJudged registry board Legal = LegalReg registry × LegalBoard board
AreJudged registry board (Illegal place reason) = IsWrongIn registry board place reason
AreJudged registry board (NoTrace line) = ⊥

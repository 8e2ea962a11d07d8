-- How a run ends.
use Rattle.std.specs.Prelude.{◌≡◌, ℕ, ◌≤◌, Bool, true, false, List, [], ◌∷◌, ◌++◌, All}
use Rattle.alg_registry.specs.declared.entry.RegEntry.{RegEntry}
use Rattle.alg_registry.specs.Rows.{caller_of as reg_caller}
use Rattle.board.specs.declared.entry.BoardEntry.{BoardEntry}
use Rattle.board.specs.declared.entry.BoardEntry.TheVariants.{Shut}
use Rattle.board.specs.Entries.{caller_of as board_caller}
use Rattle.board.specs.PipelineHistory.{is_work}
use Rattle.trace_text.specs.Asks.{ask_origin}
use Rattle.trace_text.specs.Trace.{trace_of, AreEvents}
use Rattle.transforms.specs.declared.ask.Ask.{Ask}

-- ---- the trace

-- what is written of these histories after the text: their trace, where it is asked for
abbrev pub traced : Bool → List RegEntry → List (BoardEntry Ask) → List ℕ
traced true r b = trace_of ask_origin r b
traced false r b = []

-- the trace of these histories can be read back
abbrev pub CanBeRead : List RegEntry → List (BoardEntry Ask) → Type 0
CanBeRead r b = AreEvents ask_origin r b

-- ---- histories

-- each entry is the script's, whose number is 0, or that of one of so many workers
abbrev pub AreCallers : ℕ → List RegEntry → List (BoardEntry Ask) → Type 0
AreCallers workers r b = All (λ e. reg_caller e ≤ workers) r × All (λ e. board_caller e ≤ workers) b

-- the board was shut last
abbrev pub EndsShut : List (BoardEntry Ask) → Type 0
EndsShut b = (before : List (BoardEntry Ask)) × (b ≡ before ++ Shut 0 ∷ [])

-- Caller 0 shut the board. After that one of so many workers made each entry, and it is work.
pub record IsShutOnce (workers : ℕ) (b : List (BoardEntry Ask)) : Type 0 where
  pub before : List (BoardEntry Ask)
  pub after : List (BoardEntry Ask)
  pub history : b ≡ before ++ Shut 0 ∷ after
  pub work : All (λ e. (1 ≤ board_caller e) × (board_caller e ≤ workers) × (is_work e ≡ true)) after

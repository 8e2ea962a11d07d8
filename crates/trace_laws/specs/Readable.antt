-- The law of a run's trace.
use Rattle.std.specs.Prelude.{ℕ, ◌≤◌, List, All}
use Rattle.alg_registry.specs.declared.entry.RegEntry.{RegEntry}
use Rattle.alg_registry.specs.Legal.{LegalReg}
use Rattle.alg_registry.specs.Made.{Made}
use Rattle.alg_registry.specs.Rows.{caller_of}
use Rattle.board.specs.declared.entry.BoardEntry.{BoardEntry}
use Rattle.dialogues.specs.Texts.{IsText}
use Rattle.dialogues.specs.ScriptState.{start}
use Rattle.script_text.specs.Script.{script_of}
use Rattle.templates.specs.Table.{table}
use Rattle.trace_text.specs.Asks.{ask_origin}
use Rattle.trace_text.specs.Trace.{FitTypes, AreEvents}
use Rattle.transforms.specs.declared.ask.Ask.{Ask}

-- Histories that a script has a text over, of the script as caller 0 and at most 16 workers, in which each instance is
-- what its template makes of its children, have a trace that can be read back, where their numbers are within their
-- types.
abbrev pub TracesCanBeRead : Type 0
TracesCanBeRead =
    (workers : ℕ) (script : List ℕ) (r : List RegEntry) (b : List (BoardEntry Ask)) (text : List ℕ)
    → workers ≤ 16 → LegalReg r → Made table r → All (λ e. caller_of e ≤ workers) r
    → IsText workers (start 0) 0 (script_of script) r b text
    → FitTypes ask_origin r b → AreEvents ask_origin r b

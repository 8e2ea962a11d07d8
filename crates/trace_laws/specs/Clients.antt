-- The law of the trace of several scripts at once.
use Rattle.std.specs.Prelude.{ℕ, ◌≤◌, List, All}
use Rattle.alg_registry.specs.declared.entry.RegEntry.{RegEntry}
use Rattle.alg_registry.specs.Legal.{LegalReg}
use Rattle.alg_registry.specs.Made.{Made}
use Rattle.alg_registry.specs.Rows.{caller_of}
use Rattle.board.specs.declared.entry.BoardEntry.{BoardEntry}
use Rattle.client_texts.specs.Outputs.{IsOutput}
use Rattle.client_texts.specs.OneList.{IsOneOf}
use Rattle.templates.specs.Table.{table}
use Rattle.trace_text.specs.Asks.{ask_origin}
use Rattle.trace_text.specs.Trace.{FitTypes, AreEvents}
use Rattle.transforms.specs.declared.ask.Ask.{Ask}

-- The same of histories of so many clients beside at most 16 workers, over which their scripts have an output.
abbrev pub ClientTracesCanBeRead : Type 0
ClientTracesCanBeRead =
    (workers clients : ℕ) (input : List ℕ) (r : List RegEntry) (b : List (BoardEntry Ask)) (output : List ℕ)
    → workers ≤ 16 → LegalReg r → Made table r → All (λ e. IsOneOf workers clients (caller_of e)) r
    → IsOutput workers clients input r b output → FitTypes ask_origin r b → AreEvents ask_origin r b

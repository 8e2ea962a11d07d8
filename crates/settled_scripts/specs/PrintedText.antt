-- The law of settled scripts.
use Rattle.std.specs.Prelude.{ℕ, ◌≡◌, ◌≤◌, List, [], All}
use Rattle.alg_registry.specs.declared.entry.RegEntry.{RegEntry}
use Rattle.alg_registry.specs.Legal.{LegalReg}
use Rattle.alg_registry.specs.Made.{Made}
use Rattle.alg_registry.specs.Rows.{caller_of}
use Rattle.board.specs.declared.entry.BoardEntry.{BoardEntry}
use Rattle.board.specs.Entries.{caller_of as board_caller}
use Rattle.board.specs.Legal.{LegalBoard}
use Rattle.script_text.specs.declared.commands.Line.{Line}
use Rattle.templates.specs.Table.{table}
use Rattle.transforms.specs.declared.ask.Ask.{Ask}
use Rattle.dialogues.specs.InTurn.{AreInTurnBy}
use Rattle.dialogues.specs.RegistryCalls.{reg_calls}
use Rattle.dialogues.specs.Texts.{IsText}
use Rattle.dialogues.specs.ScriptState.{start}
use Rattle.dialogues.specs.Widths.{widest}
use Rattle.settled_scripts.specs.Settled.{IsSettled, plain_text}

-- Over legal and faithful histories whose callers are the script and at most 16 workers, in which the script called the
-- registry in turn, with as many looks at once as a probe has names, the text of a settled script is the plain one,
-- beside any number of workers.
abbrev pub PrintsPlain : Type 0
PrintsPlain =
    (workers : ℕ) (lines : List Line) (r : List RegEntry) (b : List (BoardEntry Ask)) (text : List ℕ)
    → IsSettled lines
    → LegalReg r → Made table r → All (λ e. caller_of e ≤ 16) r
    → LegalBoard b → All (λ e. board_caller e ≤ 16) b
    → AreInTurnBy (widest lines) 0 (reg_calls 0 r) [] r
    → IsText workers (start 0) 0 lines r b text → text ≡ plain_text lines

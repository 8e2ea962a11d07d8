-- The laws of the requests and of the output of several scripts at once.
use Rattle.std.specs.Prelude.{ℕ, ◌+◌, ◌≡◌, List}
use Rattle.alg_registry.specs.declared.entry.RegEntry.{RegEntry}
use Rattle.board.specs.Allowance.{accepted_by}
use Rattle.board.specs.declared.entry.BoardEntry.{BoardEntry}
use Rattle.board.specs.Entries.{entries_of}
use Rattle.script_text.specs.declared.commands.Line.{Line}
use Rattle.transforms.specs.declared.ask.Ask.{Ask}
use Rattle.dialogues.specs.Texts.{IsClientText, AreFirstTexts}
use Rattle.dialogues.specs.ScriptState.{ScriptState, Live}
use Rattle.client_texts.specs.Outputs.{IsOutput}
use Rattle.client_texts.specs.OneList.{AreInOrder}

-- what pipeline p accepted from a client stands in the order of the client's lines
abbrev pub ClientsInOrder : Type 0
ClientsInOrder =
    (workers client : ℕ) (shared : List Live) (lines : List Line) (r : List RegEntry) (b : List (BoardEntry Ask)) (text : List ℕ) (p : ℕ)
    → IsClientText workers client shared lines r b text → AreInOrder client 1 (accepted_by (16 + client) (entries_of p b))

-- and so does what it accepted from the first part
abbrev pub FirstInOrder : Type 0
FirstInOrder =
    (workers : ℕ) (lines : List Line) (script_state : ScriptState) (r : List RegEntry) (b : List (BoardEntry Ask)) (opening ending : List ℕ) (p : ℕ)
    → AreFirstTexts workers lines script_state r b opening ending → AreInOrder 0 1 (accepted_by 0 (entries_of p b))

-- an input has one output over two histories
abbrev pub OneOutput : Type 0
OneOutput =
    (workers clients : ℕ) (input : List ℕ) (r : List RegEntry) (b : List (BoardEntry Ask)) (x y : List ℕ)
    → IsOutput workers clients input r b x → IsOutput workers clients input r b y → x ≡ y

-- How a load is made: as the lines of a script that nobody writes, and whose answers nobody prints.
use Rattle.std.specs.Prelude.{ℕ, false, if◌then◌else◌, List, [], ◌∷◌, codes, map, None}
use Rattle.script_text.specs.declared.commands.Command.TheVariants.{Alloc, Key, Enc}
use Rattle.script_text.specs.declared.commands.Line.{Line}
use Rattle.script_text.specs.declared.commands.Line.TheVariants.{Cmd}
use Rattle.dialogues.specs.BoardCalls.{Asked}
use Rattle.dialogues.specs.Dialogues.{Dialogue}
use Rattle.dialogues.specs.Lines.{lines_dialogue}
use Rattle.dialogues.specs.PipelineCommands.{end}
use Rattle.dialogues.specs.ScriptState.{start}
use Rattle.load_mode.specs.Requests.{key_of_a, cipher_key, is_on_a, load_requests}

abbrev pub label_of_a : List ℕ
label_of_a = codes "a"

abbrev pub label_of_g : List ℕ
label_of_g = codes "g"

abbrev pub label_for : ℕ → List ℕ
label_for number = if is_on_a number then label_of_a else label_of_g

-- both transforms
abbrev pub opening : List Line
opening =
    Cmd (Alloc label_of_a (codes "pcrypt(authenc(hmac(sha256),cbc(aes)))") None)
    ∷ Cmd (Key label_of_a key_of_a)
    ∷ Cmd (Alloc label_of_g (codes "pcrypt(gcm(aes))") None)
    ∷ Cmd (Key label_of_g cipher_key)
    ∷ []

abbrev pub request_line : Asked → Line
request_line asked = Cmd (Enc (label_for asked.line) asked.request.iv asked.request.aad asked.request.text false)

abbrev pub request_lines : ℕ → ℕ → List Line
request_lines seed count = map request_line (load_requests seed count)

-- Both transforms are made; the requests, whose numbers are those of their lines, are handed in; and the end of input
-- drains `a`, then `g`, and shuts the board.
abbrev pub load_dialogue : ℕ → ℕ → ℕ → Dialogue
load_dialogue workers seed count =
    lines_dialogue workers (start 0) 0 opening λ script_state. lines_dialogue workers script_state 0 (request_lines seed count) end

-- What several scripts at once print.
use Rattle.std.specs.Prelude.{ℕ, ◌+◌, ◌≡◌, List, [], ◌∷◌, ◌++◌, map}
use Rattle.alg_registry.specs.declared.entry.RegEntry.{RegEntry}
use Rattle.board.specs.declared.entry.BoardEntry.{BoardEntry}
use Rattle.reply_text.specs.Answers.{heading}
use Rattle.script_text.specs.declared.commands.Line.{Line}
use Rattle.script_text.specs.Parts.{parts_of}
use Rattle.script_text.specs.Script.{script_of}
use Rattle.transforms.specs.declared.ask.Ask.{Ask}
use Rattle.dialogues.specs.Texts.{IsClientText, AreFirstTexts}
use Rattle.dialogues.specs.ScriptState.{ScriptState, Live}

-- the texts of the clients from this one on, each under its line
abbrev pub under_headings : ℕ → List (List ℕ) → List ℕ
under_headings client [] = []
under_headings client (text ∷ texts) = heading client ++ text ++ under_headings (client + 1) texts

-- these are the texts of the clients from this one on, one for each part
abbrev pub AreClientTexts : ℕ → ℕ → List Live → List (List Line) → List RegEntry → List (BoardEntry Ask) → List (List ℕ) → Type 0
AreClientTexts workers client shared [] r b texts = texts ≡ []
AreClientTexts workers client shared (lines ∷ parts) r b [] = ⊥
AreClientTexts workers client shared (lines ∷ parts) r b (text ∷ texts) =
    IsClientText workers client shared lines r b text × AreClientTexts workers (client + 1) shared parts r b texts

-- The first part runs alone, and what it has made then all clients share. Its text stands first; then the clients'
-- texts, each under its line; and then what the end of the first client's input prints, when the others have ended.
pub record IsOutputOf (workers : ℕ) (first : List Line) (parts : List (List Line)) (r : List RegEntry) (b : List (BoardEntry Ask)) (output : List ℕ) : Type 0 where
  pub made : ScriptState
  pub opening : List ℕ
  pub texts : List (List ℕ)
  pub ending : List ℕ
  pub alone : AreFirstTexts workers first made r b opening ending
  pub clients : AreClientTexts workers 1 made.lives parts r b texts
  pub output_is : output ≡ opening ++ under_headings 1 texts ++ ending

-- what the parts of an input say
abbrev pub scripts_of : ℕ → List ℕ → List (List Line)
scripts_of clients input = map script_of (parts_of clients input)

abbrev pub IsOutputBy : ℕ → List (List Line) → List RegEntry → List (BoardEntry Ask) → List ℕ → Type 0
IsOutputBy workers [] r b output = ⊥
IsOutputBy workers (first ∷ parts) r b output = IsOutputOf workers first parts r b output

-- what an input for so many clients prints over the histories
abbrev pub IsOutput : ℕ → ℕ → List ℕ → List RegEntry → List (BoardEntry Ask) → List ℕ → Type 0
IsOutput workers clients input r b output = IsOutputBy workers (scripts_of clients input) r b output

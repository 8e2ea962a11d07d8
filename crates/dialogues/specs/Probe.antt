-- The line that looks several names up: `probe`.
use Rattle.std.specs.Prelude.{ℕ, List, [], ◌∷◌, Result, Ok, Err}
use Rattle.kc_base.specs.declared.error_numbers.Errno.{Errno}
use Rattle.alg_names.specs.Name.{Tree}
use Rattle.reply_text.specs.declared.answers.Answer.{Answer}
use Rattle.reply_text.specs.declared.answers.Answer.TheVariants as said
use Rattle.templates.specs.LookResults.{Found, Entry, Fault}
use Rattle.dialogues.specs.Dialogues.{Dialogue, Ends, Says, Asks}
use Rattle.dialogues.specs.Names.{name_read}
use Rattle.dialogues.specs.Questions.{Look}
use Rattle.dialogues.specs.ScriptState.{ScriptState}

-- what is said of a name, by what it came to
abbrev pub found_said : ℕ → List ℕ → Found → Answer
found_said n name (Entry id spec) = said.Probed n name spec.driver
found_said n name (Fault errno) = said.Unprobed n name errno

-- a name is looked up; a text that is none comes to its own fault
abbrev pub looks_up : List ℕ → Result Tree Errno → (Found → Dialogue) → Dialogue
looks_up name (Ok tree) rest = Asks (Look name) rest
looks_up name (Err errno) rest = rest (Fault errno)

-- each of the names is looked up, one after the other, and then the dialogue goes on with what is said of them
abbrev pub looks_all : ℕ → List (List ℕ) → (List Answer → Dialogue) → Dialogue
looks_all n [] rest = rest []
looks_all n (name ∷ names) rest = looks_up name (name_read name) λ found. looks_all n names λ answers. rest (found_said n name found ∷ answers)

-- `probe NAME ..`
abbrev pub probe : ScriptState → ℕ → List (List ℕ) → Dialogue
probe script_state n names = looks_all n names λ answers. Says answers (Ends script_state)

-- A dialogue: what a script asks of its registry and its board, by turns, and what it answers.
use Rattle.std.specs.Prelude.{ℕ, Bool, if◌then◌else◌, List, [], ◌∷◌, Option, Some, None}
use Rattle.kc_base.specs.declared.error_numbers.Errno.{Errno}
use Rattle.kc_base.specs.declared.error_numbers.Errno.TheVariants.{ENOENT, EINVAL}
use Rattle.reply_text.specs.declared.answers.Answer.{Answer}
use Rattle.reply_text.specs.declared.answers.Answer.TheVariants as said
use Rattle.dialogues.specs.Questions.{RegQuestion, RegAnswer, BoardQuestion, BoardAnswer}
use Rattle.dialogues.specs.ScriptState.{ScriptState, Live, live_of, shared_of, either_of}

-- It ends, with what the script has made; or it answers; or it asks, and goes on by what comes of it.
pub data Dialogue : Type 0 where
  Ends : (after : ScriptState) → Dialogue
  Says : (answers : List Answer) → (next : Dialogue) → Dialogue
  Asks : (question : RegQuestion) → (next : RegAnswer question → Dialogue) → Dialogue
  Posts : (question : BoardQuestion) → (next : BoardAnswer question → Dialogue) → Dialogue

-- one dialogue, and then another by what is made after it
abbrev pub followed : Dialogue → (ScriptState → Dialogue) → Dialogue
followed (Ends after) later = later after
followed (Says answers next) later = Says answers (followed next later)
followed (Asks question next) later = Asks question (λ answer. followed (next answer) later)
followed (Posts question next) later = Posts question (λ answer. followed (next answer) later)

-- ---- how lines end

abbrev pub says : ScriptState → Answer → Dialogue
says script_state answer = Says (answer ∷ []) (Ends script_state)

abbrev pub answers_errno : ScriptState → ℕ → Errno → Dialogue
answers_errno script_state n errno = says script_state (said.Refused n errno)

-- the first refusal whose condition holds, and otherwise the rest
abbrev pub unless : ScriptState → ℕ → List (Bool × Errno) → Dialogue → Dialogue
unless script_state n [] rest = rest
unless script_state n (refusal ∷ refusals) rest = if refusal.0 then answers_errno script_state n refusal.1 else unless script_state n refusals rest

-- what a line does with a live transform; without one it is refused so
abbrev pub for_live : ScriptState → ℕ → Option Live → Errno → (Live → Dialogue) → Dialogue
for_live script_state n (Some live) errno rest = rest live
for_live script_state n None errno rest = answers_errno script_state n errno

-- why a script has no live transform of its own under a label: it may not change the shared one
abbrev pub missing : Option Live → Errno
missing (Some shared) = EINVAL
missing None = ENOENT

-- what a line does with its script's own live transform of a label
abbrev pub with_label : ScriptState → ℕ → List ℕ → (Live → Dialogue) → Dialogue
with_label script_state n label rest = for_live script_state n (live_of script_state label) (missing (shared_of script_state label)) rest

-- and what with its own or the shared one
abbrev pub with_either : ScriptState → ℕ → List ℕ → (Live → Dialogue) → Dialogue
with_either script_state n label rest = for_live script_state n (either_of script_state label) ENOENT rest

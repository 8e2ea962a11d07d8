-- The lines that ask the registry alone: `register`, `unregister`, `refs` and `list`.
use Rattle.std.specs.Prelude.{ℕ, nat_lt, List, [], ◌∷◌, ◌++◌, length, map, Option, Some, None}
use Rattle.kc_base.specs.declared.error_numbers.Errno.TheVariants.{ENOENT, EEXIST, EINVAL, ENFILE}
use Rattle.alg_registry.specs.declared.spec.Spec.{Spec}
use Rattle.alg_registry.specs.declared.entry.Enlisted.{Enlisted}
use Rattle.alg_registry.specs.declared.entry.Enlisted.TheVariants.{Made, Exist, NFile}
use Rattle.alg_registry.specs.declared.entry.RefAnswer.{RefAnswer}
use Rattle.alg_registry.specs.declared.listing.ListRow.{ListRow}
use Rattle.reply_text.specs.declared.answers.Answer.{Answer}
use Rattle.reply_text.specs.declared.answers.Answer.TheVariants as said
use Rattle.dialogues.specs.Names.{driver_spec}
use Rattle.dialogues.specs.Questions.{Enlist, Unlist, Count, ListAll}
use Rattle.dialogues.specs.Dialogues.{Dialogue, Ends, Says, Asks, says, answers_errno, unless}
use Rattle.dialogues.specs.ScriptState.{ScriptState}

-- ---- `register DRIVER NUM`

abbrev pub enlist_said : ℕ → Enlisted → Answer
enlist_said n (Made id) = said.Ok n
enlist_said n Exist = said.Refused n EEXIST
enlist_said n NFile = said.Refused n ENFILE

abbrev pub enlist_spec : ScriptState → ℕ → ℕ → Option Spec → Dialogue
enlist_spec script_state n priority None = answers_errno script_state n ENOENT
enlist_spec script_state n priority (Some spec) =
    unless script_state n ((nat_lt 100000 priority, EINVAL) ∷ []) (Asks (Enlist spec) λ answer. says script_state (enlist_said n answer))

abbrev pub register : ScriptState → ℕ → List ℕ → ℕ → Dialogue
register script_state n driver priority = enlist_spec script_state n priority (driver_spec driver priority)

-- ---- `unregister DRIVER`

abbrev pub unlist_said : ℕ → Option ℕ → Answer
unlist_said n (Some id) = said.Ok n
unlist_said n None = said.Refused n ENOENT

abbrev pub unregister : ScriptState → ℕ → List ℕ → Dialogue
unregister script_state n driver = Asks (Unlist driver) λ id. says script_state (unlist_said n id)

-- ---- `refs DRIVER`

abbrev pub refs_said : ℕ → Option RefAnswer → Answer
refs_said n (Some references) = said.Refs n references.count references.listed
refs_said n None = said.Refused n ENOENT

abbrev pub refs : ScriptState → ℕ → List ℕ → Dialogue
refs script_state n driver = Asks (Count driver) λ answer. says script_state (refs_said n answer)

-- ---- `list`

abbrev pub row_said : ℕ → ListRow → Answer
row_said n row = said.Alg n row.name row.driver row.priority row.refs

abbrev pub listed : ScriptState → ℕ → Dialogue
listed script_state n = Asks ListAll λ rows. Says (map (row_said n) rows ++ said.Listed n (length rows) ∷ []) (Ends script_state)

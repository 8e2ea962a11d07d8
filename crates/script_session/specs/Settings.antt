-- What a line sets of a transform.
use Rattle.std.specs.Prelude.{ℕ, Bool, true, false, List}
use Rattle.dialogues.specs.BoardCalls.{BoardCall, Holds, Goes}
use Rattle.dialogues.specs.Dialogues.{Dialogue}
use Rattle.dialogues.specs.PipelineCommands.{mask, hold, go}
use Rattle.dialogues.specs.RequestCommands.{set_key, set_tag_size}
use Rattle.dialogues.specs.ScriptState.{ScriptState}
use Rattle.script_session.specs.declared.settings.Setting.{Setting}
use Rattle.script_session.specs.declared.settings.Setting.TheVariants as set

-- `hold T`, or `go T`, and the call that it makes
abbrev pub holds_or_goes : ScriptState → ℕ → List ℕ → Bool → Dialogue
holds_or_goes script_state n label true = hold script_state n label
holds_or_goes script_state n label false = go script_state n label

abbrev pub hold_call : Bool → ℕ → BoardCall
hold_call true pipe = Holds pipe
hold_call false pipe = Goes pipe

-- the line that sets it
abbrev pub sets : ℕ → ScriptState → ℕ → List ℕ → Setting → Dialogue
sets workers script_state n label (set.Key key) = set_key script_state n label key
sets workers script_state n label (set.TagSize size) = set_tag_size script_state n label size
sets workers script_state n label (set.Mask bits) = mask workers script_state n label bits
sets workers script_state n label (set.Held held) = holds_or_goes script_state n label held

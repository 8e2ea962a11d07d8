-- What a script asks when its lines are done whose transforms others are to share.
use Rattle.std.specs.Prelude.{List, [], ◌∷◌, Option, Some, None}
use Rattle.dialogues.specs.Dialogues.{Dialogue, Posts}
use Rattle.dialogues.specs.PipelineCommands.{end}
use Rattle.dialogues.specs.Questions.{Share}
use Rattle.dialogues.specs.ScriptState.{ScriptState, Live, PipelineState}

-- a transform's pipeline is shared, where it has one
abbrev pub shares : Option PipelineState → Dialogue → Dialogue
shares None rest = rest
shares (Some pipe) rest = Posts (Share pipe.number) λ done. rest

-- each of these, in order
abbrev pub share_all : List Live → Dialogue → Dialogue
share_all [] rest = rest
share_all (live ∷ lives) rest = shares live.pipe (share_all lives rest)

-- Each live transform's pipeline is shared, in order of allocation; and the end of input, when the others have ended.
abbrev pub closing : ScriptState → Dialogue
closing script_state = share_all script_state.lives (end script_state)

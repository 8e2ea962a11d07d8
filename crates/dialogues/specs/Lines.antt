-- What lines mean: each is a dialogue, by what the script has made before it, and the line's number.
use Rattle.std.specs.Prelude.{ℕ, ◌+◌, List, [], ◌∷◌}
use Rattle.script_text.specs.declared.commands.Command.{Command}
use Rattle.script_text.specs.declared.commands.Command.TheVariants as command
use Rattle.script_text.specs.declared.commands.Line.{Line}
use Rattle.script_text.specs.declared.commands.Line.TheVariants as line
use Rattle.transforms.specs.declared.request.Dir.TheVariants as dir
use Rattle.reply_text.specs.declared.answers.Answer.TheVariants as said
use Rattle.dialogues.specs.AllocAndFree.{alloc, free}
use Rattle.dialogues.specs.Bulk.{bulk}
use Rattle.dialogues.specs.Dialogues.{Dialogue, Ends, followed, says}
use Rattle.dialogues.specs.PipelineCommands.{mask, hold, go, poll, drain, end, end_beside}
use Rattle.dialogues.specs.Probe.{probe}
use Rattle.dialogues.specs.RegistryCommands.{register, unregister, refs, listed}
use Rattle.dialogues.specs.RequestCommands.{aes, set_key, set_tag_size, request, request_of}
use Rattle.dialogues.specs.ScriptState.{ScriptState}

-- The first argument of each is how many workers stand beside the script.
abbrev pub command_dialogue : ℕ → ScriptState → ℕ → Command → Dialogue
command_dialogue workers script_state n (command.Aes key block) = aes script_state n key block
command_dialogue workers script_state n (command.Register driver priority) = register script_state n driver priority
command_dialogue workers script_state n (command.Unregister driver) = unregister script_state n driver
command_dialogue workers script_state n (command.Probe names) = probe script_state n names
command_dialogue workers script_state n (command.Alloc label name length) = alloc workers script_state n label name length
command_dialogue workers script_state n (command.Key label key) = set_key script_state n label key
command_dialogue workers script_state n (command.Authsize label size) = set_tag_size script_state n label size
command_dialogue workers script_state n (command.Enc label iv aad text backlog) = request script_state n label (request_of dir.Enc iv aad text) backlog
command_dialogue workers script_state n (command.Dec label iv aad text backlog) = request script_state n label (request_of dir.Dec iv aad text) backlog
command_dialogue workers script_state n (command.Mac label text backlog) = request script_state n label (request_of dir.Mac [] [] text) backlog
command_dialogue workers script_state n (command.Bulk label size seed) = bulk script_state n label size seed
command_dialogue workers script_state n (command.Mask label bits) = mask workers script_state n label bits
command_dialogue workers script_state n (command.Hold label) = hold script_state n label
command_dialogue workers script_state n (command.Go label) = go script_state n label
command_dialogue workers script_state n (command.Poll label) = poll script_state n label
command_dialogue workers script_state n (command.Drain label) = drain script_state n label
command_dialogue workers script_state n (command.Free label) = free script_state n label
command_dialogue workers script_state n (command.Refs driver) = refs script_state n driver
command_dialogue workers script_state n command.List = listed script_state n

abbrev pub line_dialogue : ℕ → ScriptState → ℕ → Line → Dialogue
line_dialogue workers script_state n line.Nothing = Ends script_state
line_dialogue workers script_state n line.Malformed = says script_state (said.Malformed n)
line_dialogue workers script_state n (line.Cmd command) = command_dialogue workers script_state n command

-- lines from a number on, and then what follows on them
abbrev pub lines_dialogue : ℕ → ScriptState → ℕ → List Line → (ScriptState → Dialogue) → Dialogue
lines_dialogue workers script_state n [] rest = rest script_state
lines_dialogue workers script_state n (next ∷ lines) rest = followed (line_dialogue workers script_state n next) λ after. lines_dialogue workers after (n + 1) lines rest

-- a whole script, and the end of its input
abbrev pub script : ℕ → ScriptState → List Line → Dialogue
script workers script_state lines = lines_dialogue workers script_state 1 lines end

-- a whole script beside others, who go on at its end
abbrev pub script_beside : ℕ → ScriptState → List Line → Dialogue
script_beside workers script_state lines = lines_dialogue workers script_state 1 lines end_beside

-- What a settled script prints: by one pass over its lines with no workers, no locks and no events.
use Rattle.std.specs.Prelude.{ℕ, ◌≡◌, ◌%◌, ◌==◌, Bool, true, false, ◌&&◌, ◌||◌, nat_le, List, [], ◌++◌, length}
use Rattle.std.specs.List.{flat_map, list_all}
use Rattle.script_text.specs.declared.commands.Command.TheVariants as command
use Rattle.script_text.specs.declared.commands.Line.{Line}
use Rattle.script_text.specs.declared.commands.Line.TheVariants as line
use Rattle.reply_text.specs.declared.answers.Answer.{Answer}
use Rattle.reply_text.specs.Answers.{text_of}
use Rattle.dialogues.specs.Dialogues.{Dialogue, Ends, Says, Asks, Posts}
use Rattle.dialogues.specs.Lines.{script}
use Rattle.dialogues.specs.Questions.{reg_call, board_call}
use Rattle.dialogues.specs.ScriptState.{ScriptState, start}
use Rattle.sequential_model.specs.Registry.{PlainRegistry, first_registry, answer_in, registry_after}
use Rattle.sequential_model.specs.Pipelines.{Pipeline, reply_in, is_timeless, pipelines_after}

-- What was said; what the script, its registry and its pipelines are then; and whether no answer depended on time.
pub record Passed : Type 0 where
  pub answers : List Answer
  pub after : ScriptState
  pub registry : PlainRegistry
  pub pipelines : List Pipeline
  pub timeless : Bool

abbrev pub saying : List Answer → Passed → Passed
saying answers passed = record passed { answers = answers ++ passed.answers }

abbrev pub if_timeless : Bool → Passed → Passed
if_timeless timeless passed = record passed { timeless = timeless && passed.timeless }

-- A dialogue passes: each question is answered as it comes.
abbrev pub pass : Dialogue → PlainRegistry → List Pipeline → Passed
pass (Ends after) registry pipelines = record { answers = []; after = after; registry = registry; pipelines = pipelines; timeless = true }
pass (Says answers next) registry pipelines = saying answers (pass next registry pipelines)
pass (Asks question next) registry pipelines =
    let answer = answer_in registry question in
    pass (next answer) (registry_after registry (reg_call question answer)) pipelines
pass (Posts question next) registry pipelines =
    let answer = reply_in pipelines question in
    if_timeless (is_timeless pipelines question) (pass (next answer) registry (pipelines_after pipelines (board_call question answer)))

-- the whole script, as client 0
abbrev pub passed : List Line → Passed
passed lines = pass (script 0 (start 0) lines) first_registry []

unfoldable pub plain_text : List Line → List ℕ
plain_text lines = flat_map text_of (passed lines).answers

-- It is no `poll`, and no `probe` of several names; and a mask is empty or has the first worker's bit, which is there
-- beside any number of workers.
abbrev pub is_settled_line : Line → Bool
is_settled_line (line.Cmd (command.Poll label)) = false
is_settled_line (line.Cmd (command.Probe names)) = nat_le (length names) 1
is_settled_line (line.Cmd (command.Mask label bits)) = bits == 0 || bits % 2 == 1
is_settled_line _ = true

-- No line polls or probes several names, and no answer depends on which jobs were done by then: a request finds its
-- queue full, or not, whoever works.
pub record IsSettled (lines : List Line) : Type 0 where
  pub lines_settled : list_all is_settled_line lines ≡ true
  pub timeless : (passed lines).timeless ≡ true

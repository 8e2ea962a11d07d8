use Rattle.dialogues.specs.Lines.{lines_dialogue}
use Rattle.dialogues.specs.PipelineCommands.{end}
use Rattle.load_mode.specs.Lines.{request_lines}
use Rattle.script_session.specs.Replies.{IsReady}
use Rattle.script_run.specs.Loads.{PerformsOn}
use Rattle.script_run.specs.Runs.{GoesOn}
use Rattle.script_run.proofs.LoadLines.{LeftAt}
use Rattle.script_run.proofs.load_session.hold_requests.Given as goal

abbrev pub invariant-loop-number : goal.invariant-loop-number
invariant-loop-number g l =
    let first = l.fn.session in
    record {
      on : PerformsOn (lines_dialogue first.workers first.script_state 0 (request_lines l.fn.seed l.fn.count) end) (LeftAt first.workers l.fn.count l.number l.generator) first l.session l.fn.hasher l.hasher;
      ready : IsReady l.registry l.board l.session;
      goes : GoesOn first l.session;
    }

use Rattle.std.proofs.Common.{refl, arith}
use Rattle.dialogues.specs.Lines.{lines_dialogue}
use Rattle.dialogues.specs.PipelineCommands.{end}
use Rattle.load_mode.specs.Lines.{request_line, request_lines}
use Rattle.load_mode.specs.Requests.{asked_for, drawn_request}
use Rattle.script_run.proofs.Going.{goes-then}
use Rattle.script_run.proofs.LoadLines.{requests-more}
use Rattle.script_run.proofs.load_session.hold_requests.Goals as goal

pub loop-number-preserved : goal.loop-number-preserved
loop-number-preserved g c =
    let first = c.args.session.now in
    let now = c.loop-number.session in
    let held = c.in_ok-hold_request.ensures in
    record {
      on =
          requests-more first.workers c.args.count c.loop-number.number c.loop-number.generator c.hold_request.new.generator (lines_dialogue first.workers first.script_state 0 (request_lines c.args.seed c.args.count) end)
          first now c.hold_request.new.session c.args.hasher.now c.loop-number.hasher c.hold_request.new.hasher (request_line (asked_for c.loop-number.number (drawn_request c.loop-number.generator)))
          (omega arith) c.loop-number.invariant.goes.locks.workers refl held.drawn c.loop-number.invariant.on held.on;
      ready = held.ready;
      goes = goes-then first now c.hold_request.new.session c.loop-number.invariant.goes c.hold_request.ensures.goes_on;
    }

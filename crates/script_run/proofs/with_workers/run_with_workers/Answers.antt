use Rattle.script_run.proofs.Finishing.{script-ran}
use Rattle.script_run.proofs.with_workers.run_with_workers.Goals as goal

pub returns-clause-ran : goal.returns-clause-ran
returns-clause-ran g c =
    let m = c.script_with_workers-passes.ensures.crewed in
    let held = g.K.Sink.held in
    let left = g.S.Source.left in
    let registry = c.finish_all.ensures in
    let board = c.finish_all-2.ensures in
    script-ran c.crew_laws.ensures c.args.workers (left c.args.src.now) (left c.script_with_workers-passes.new.src) c.args.passes m.0 m.1 c.script_with_workers-passes.result.0 c.script_with_workers-passes.result.1
    (held c.args.out.now) (held c.script_with_workers-passes.new.out) c.finish_all.result c.finish_all-2.result
    (record { new = c.requires.first; next = m.2; crewed = m.4; shows_r = registry.shows; shows_b = board.shows; legal = registry.faithful.legal; made = registry.faithful.made; legal_board = board.legal })
    m.3 c.settled_scripts_print_plain.ensures c.requires.few

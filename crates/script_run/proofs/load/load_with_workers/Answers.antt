use Rattle.script_run.proofs.Loaded.{load-ran}
use Rattle.script_run.proofs.load.load_with_workers.Goals as goal

pub returns : goal.returns
returns g c =
    let m = c.crew_load-passes.ensures.crewed in
    let o = c.args.options.now in
    let registry = c.finish_all.ensures in
    let board = c.finish_all-2.ensures in
    load-ran c.crew_laws.ensures o.workers o.seed o.count c.args.passes m.0 m.1 c.crew_load-passes.result.0 c.crew_load-passes.result.1 c.finish_all.result c.finish_all-2.result
    (record { new = c.requires.first; next = m.2; crewed = m.4; shows_r = registry.shows; shows_b = board.shows; legal = registry.faithful.legal; made = registry.faithful.made; legal_board = board.legal })
    m.3 c.loads_come_to.ensures c.requires.few c.requires.count

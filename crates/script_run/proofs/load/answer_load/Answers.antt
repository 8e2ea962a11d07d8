use Rattle.script_run.proofs.NewSession.{new-ready}
use Rattle.script_run.proofs.Loaded.{loads}
use Rattle.script_run.proofs.load.answer_load.Goals as goal

pub perform_load-digest-requires-clause-ready : goal.perform_load-digest-requires-clause-ready
perform_load-digest-requires-clause-ready g c = λ lifetimes bounds.
    new-ready c.args.registry.now c.args.board.now c.args.options.now.workers c.args.passes c.new-session.result c.requires.lock c.requires.new c.requires.few c.new-session.ensures

pub returns-clause-loads : goal.returns-clause-loads
returns-clause-loads g c =
    let held = c.perform_load-digest.ensures in
    let options = c.args.options.now in
    let given = c.into_passes-on_registry in
    let shut = c.shut_board.ensures in
    loads options.workers options.seed options.count c.args.passes (record { board = c.shut_board.result; registry = given.result.0 }) given.result.1 c.new-session.result c.perform_load-digest.new.session
    (record { was = c.new-session.ensures; now = given.ensures; goes = held.goes_on; new = c.requires.new; more = shut.more; shut = shut.shut; own = shut.own; closed = shut.once })
    c.perform_load-digest.result held.loaded held.own held.shut held.unshut

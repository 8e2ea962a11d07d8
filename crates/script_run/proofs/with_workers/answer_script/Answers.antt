use Rattle.script_run.proofs.NewSession.{new-ready}
use Rattle.script_run.proofs.Finishing.{answered-source}
use Rattle.script_run.proofs.with_workers.answer_script.Goals as goal

pub run_lines-answer-requires-clause-ready : goal.run_lines-answer-requires-clause-ready
run_lines-answer-requires-clause-ready g c = λ lifetimes bounds.
    new-ready c.args.registry.now c.args.board.now c.args.workers c.args.passes c.new-session.result c.requires.lock c.requires.new c.requires.few c.new-session.ensures

pub returns-clause-answers : goal.returns-clause-answers
returns-clause-answers g c =
    let held = g.K.Sink.held in
    let left = g.S.Source.left in
    let run = c.run_lines-answer.ensures.run in
    let given = c.into_passes-on_registry in
    let shut = c.shut_board.ensures in
    answered-source c.args.workers c.args.passes (record { board = c.shut_board.result; registry = given.result.0 }) given.result.1 c.new-session.result c.run_lines-answer.new.session
    (record { was = c.new-session.ensures; now = given.ensures; goes = run.lines.goes_on; new = c.requires.new; more = shut.more; shut = shut.shut; own = shut.own; closed = shut.once })
    c.laws.ensures shut.alone (left c.args.src.now) (left c.run_lines-answer.new.src) (held c.args.out.now) (held c.run_lines-answer.new.out) c.run_lines-answer.result run

use Rattle.std.proofs.lemmas.Result.{err_from_is_err_and}
use Rattle.script_run.proofs.Exits.{runs-nothing}
use Rattle.script_run.proofs.lines.run_lines.Goals as goal

pub returns-in_err-reader-clause-run : goal.returns-in_err-reader-clause-run
returns-in_err-reader-clause-run g c =
    let p = err_from_is_err_and c.from_residual.result c.from_residual.ensures.1 in
    rw (p.1, p.2) (runs-nothing c.laws.ensures c.args.registry.now c.args.board.now c.args.session.now (g.S.Source.left c.args.src.now) (g.K.Sink.held c.args.out.now) c.requires.ready c.requires.fresh)

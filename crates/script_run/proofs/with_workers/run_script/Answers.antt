use Rattle.script_run.proofs.Finishing.{not-ran}
use Rattle.script_run.proofs.with_workers.run_script.Goals as goal

pub returns-in_default-clause-ran : goal.returns-in_default-clause-ran
returns-in_default-clause-ran g c =
    let held = g.K.Sink.held in
    let left = g.S.Source.left in
    let none = c.refused_run.ensures in
    rw (none.0, none.1, none.2) (not-ran c.nothing_is_broken_off.ensures c.args.workers (left c.args.src.now) (held c.args.out.now))

use Rattle.std.proofs.Common.{refl, arith}
use Rattle.reorder_window.proofs.Adding.{finish_came, found_run}
use Rattle.reorder_window.proofs.window.Window.finish.Goals as goal

pub returns-clause-came : goal.returns-clause-came
returns-clause-came g c =
    rw (← c.self.view_is) (c.index-found.result.now.request, (omega arith, found_run c.self.inside.running.items c.self.inside.running.len _ c.args.worker c.index-found.result.now c.self.inside.running.ok.0 (omega arith) c.index-found.ensures c.if-found.false c.if-found-worker.false), refl)

pub returns-clause-stands : goal.returns-clause-stands
returns-clause-stands g c first h s = finish_came c.args.self.now _ c.args.number c.args.worker (returns-clause-came g c) first h s

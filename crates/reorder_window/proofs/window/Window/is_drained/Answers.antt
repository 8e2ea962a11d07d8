use Rattle.std.proofs.Common.{arith}
use Rattle.std.proofs.lemmas.Bool.{eqb-true}
use Rattle.reorder_window.proofs.InOrder.{drained_all}
use Rattle.reorder_window.proofs.window.Window.is_drained.Goals as goal

pub returns-clause-all : goal.returns-clause-all
returns-clause-all g c h s e = drained_all c.args.self.now h s (let k = eqb-true c.in_flight.result 0 e in let d = c.in_flight.ensures in omega arith)

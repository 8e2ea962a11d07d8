use Rattle.std.proofs.Common.{rules}
use Rattle.reorder_window.proofs.Adding.{take_came}
use Rattle.reorder_window.proofs.window.Window.take.Goals as goal

pub returns-clause-stands : goal.returns-clause-stands
returns-clause-stands g c first h s = take_came c.args.self.now _ _ c.args.worker c.in_ok-request.request (search rules) first h s

use Rattle.std.proofs.Common.{rules}
use Rattle.reorder_window.proofs.Adding.{poll_came}
use Rattle.reorder_window.proofs.window.Window.poll.Goals as goal

pub returns-clause-stands : goal.returns-clause-stands
returns-clause-stands g c first h s = poll_came c.args.self.now _ _ _ (search rules) first h s

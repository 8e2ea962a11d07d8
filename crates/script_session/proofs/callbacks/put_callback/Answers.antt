use Rattle.std.proofs.Common.{rules, arith}
use Rattle.script_session.proofs.Rooms.{started-length}
use Rattle.script_session.proofs.callbacks.put_callback.Goals as goal

pub put_short-requires : goal.put_short-requires
put_short-requires c = search (rules, started-length c.at-of.result (omega arith) (omega arith))

pub returns-in-Started-clause-left : goal.returns-in-Started-clause-left
returns-in-Started-clause-left c = omega (arith, started-length c.at-of.result (omega arith) (omega arith), c.put_short.ensures.left)

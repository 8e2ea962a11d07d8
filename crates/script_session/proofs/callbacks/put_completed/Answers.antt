use Rattle.std.proofs.Common.{rules, arith}
use Rattle.script_session.proofs.Rooms.{bad-length, invalid-length}
use Rattle.script_session.proofs.callbacks.put_completed.Goals as goal

pub put_short-requires : goal.put_short-requires
put_short-requires c = search (rules, bad-length c.args.of (omega arith) (omega arith))

pub put_short-requires-in-Invalid : goal.put_short-requires-in-Invalid
put_short-requires-in-Invalid c = search (rules, invalid-length c.args.of (omega arith) (omega arith))

pub returns-in-BadMsg-clause-left : goal.returns-in-BadMsg-clause-left
returns-in-BadMsg-clause-left c = omega (arith, bad-length c.args.of (omega arith) (omega arith), c.put_short.ensures.left)

pub returns-in-Invalid-clause-left : goal.returns-in-Invalid-clause-left
returns-in-Invalid-clause-left c = omega (arith, invalid-length c.args.of (omega arith) (omega arith), c.put_short-in-Invalid.ensures.left)

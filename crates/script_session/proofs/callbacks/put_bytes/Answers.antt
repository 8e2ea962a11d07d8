use Rattle.std.proofs.Common.{rules, arith}
use Rattle.script_session.proofs.Rooms.{done-length}
use Rattle.script_session.proofs.callbacks.put_bytes.Goals as goal

pub returns : goal.returns
returns c = search (rules, done-length c.args.of c.args.bytes.now (omega arith) (omega arith))

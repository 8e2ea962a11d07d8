use Rattle.std.proofs.Common.{arith}
use Rattle.xts_mode.proofs.Alpha.{next_halves}
use Rattle.xts_mode.proofs.tweak.Tweak.next.Goals as goal

pub returns : goal.returns
returns c = rw (← c.self.view_is) (next_halves c.self.inside.low c.self.inside.high (omega arith) (omega arith))

use Rattle.std.proofs.Common.{arith}
use Rattle.wake_ups.proofs.Examples.{wakes, woken_still}
use Rattle.wake_ups.proofs.laws.a_worker_is_woken.Goals as goal

pub returns : goal.returns
returns c = record { run = wakes; still = woken_still; waits = omega arith }

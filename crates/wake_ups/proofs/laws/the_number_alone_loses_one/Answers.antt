use Rattle.std.proofs.Common.{refl, arith}
use Rattle.wake_ups.proofs.Examples.{loses, lost_still}
use Rattle.wake_ups.proofs.laws.the_number_alone_loses_one.Goals as goal

pub returns : goal.returns
returns c = record { run = loses; still = lost_still; waits = omega arith; asleep = refl }

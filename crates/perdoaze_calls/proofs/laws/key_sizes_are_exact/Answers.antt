use Rattle.perdoaze_calls.proofs.KeySizes.{smallest, none_smaller, greatest, none_greater, unlimited}
use Rattle.perdoaze_calls.proofs.laws.key_sizes_are_exact.Goals as goal

pub returns : goal.returns
returns c = record { smallest = smallest; none_smaller = none_smaller; greatest = greatest; none_greater = none_greater; unlimited = unlimited }

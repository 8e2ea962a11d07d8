use Rattle.std.proofs.Common.{List, ℕ, ap, bit_xor}
use lib.Lanes.{zip2}
use Rattle.ghash_field.proofs.LaneRows.{moved_on, small_lanes}
use Rattle.ghash_field.proofs.wide_sum.moved.Goals as goal

pub returns-clause-value : goal.returns-clause-value
returns-clause-value c = ap (λ (t : List ℕ). zip2 bit_xor t c.args.added) (moved_on c.args.low c.fits-low.0)

pub returns-clause-small : goal.returns-clause-small
returns-clause-small c = small_lanes 16 c.args.added c.fits-added

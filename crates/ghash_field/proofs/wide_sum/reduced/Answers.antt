use Rattle.std.proofs.Common.{ap₂, bit_xor}
use Rattle.ghash_field.proofs.LaneRows.{reduced_is, small_lanes}
use Rattle.ghash_field.proofs.wide_sum.reduced.Goals as goal

pub returns : goal.returns
returns c =
    ap₂ bit_xor c.block_number-low.ensures
    (reduced_is c.block_number-high.result c.args.high (small_lanes 16 c.args.high c.fits-high) c.requires c.block_number-high.ensures)

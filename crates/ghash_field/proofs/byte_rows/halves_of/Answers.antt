use Rattle.ghash_field.proofs.LaneRows.{halves_are, small_lanes}
use Rattle.ghash_field.proofs.byte_rows.halves_of.Goals as goal

pub invariant_of-result-clause-halves : goal.invariant_of-result-clause-halves
invariant_of-result-clause-halves c = halves_are c.args.bytes c.high_half.result c.low_half.result c.fits-bytes c.high_half.ensures c.low_half.ensures

pub invariant_of-result-clause-small : goal.invariant_of-result-clause-small
invariant_of-result-clause-small c = small_lanes 16 c.args.bytes c.fits-bytes

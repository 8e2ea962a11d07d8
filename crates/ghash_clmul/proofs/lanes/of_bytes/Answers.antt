use Rattle.ghash_field.proofs.LaneRows.{small_lanes}
use Rattle.ghash_clmul.proofs.Vectors.{number-bytes}
use Rattle.ghash_clmul.proofs.lanes.of_bytes.Goals as goal

pub returns : goal.returns
returns c = number-bytes c.args.bytes c.fits-bytes.0 (small_lanes 16 c.args.bytes c.fits-bytes)

use Rattle.ghash_field.proofs.LaneRows.{in_halves-xor}
use Rattle.ghash_field.proofs.byte_rows.sum.Goals as goal

pub returns : goal.returns
returns c = in_halves-xor c.args.x c.args.y c.fits-x.0 c.fits-y.0

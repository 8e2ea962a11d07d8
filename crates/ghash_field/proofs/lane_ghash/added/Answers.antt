use Rattle.ghash_field.proofs.LaneRows.{sum_number}
use Rattle.ghash_field.proofs.lane_ghash.added.Goals as goal

pub returns : goal.returns
returns c = sum_number c.args.x c.args.y c.fits-x c.fits-y

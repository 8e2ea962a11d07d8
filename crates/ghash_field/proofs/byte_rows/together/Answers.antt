use Rattle.ghash_field.proofs.LaneRows.{together_is}
use Rattle.ghash_field.proofs.byte_rows.together.Goals as goal

pub returns : goal.returns
returns c = together_is c.args.x c.fits-x

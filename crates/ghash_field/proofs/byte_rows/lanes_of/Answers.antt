use Rattle.std.proofs.Common.{refl}
use Rattle.ghash_field.proofs.BlockLanes.{from_halves}
use Rattle.ghash_field.proofs.byte_rows.lanes_of.Goals as goal

pub returns : goal.returns
returns c = from_halves _ c.args.x refl

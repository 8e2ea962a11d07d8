use Rattle.std.specs.Prelude.{◌≡◌, ◌++◌, refl}
use lib.Lanes.{pick_l}
use Rattle.aes_block.proofs.KeyBlocks.{of_places}
use Rattle.aes_lanes.specs.Places.{columns_on}
use Rattle.aes_lanes.specs.declared.rows.TheConstants.{ONE_COLUMN}
use Rattle.aes_lanes.proofs.rows.one_column_on.Goals as goal

pub returns : goal.returns
returns c = of_places 32 (λ x. pick_l 0 (x ++ x) ONE_COLUMN ≡ columns_on 1 x) (λ z. refl) c.args.x c.fits-x.0

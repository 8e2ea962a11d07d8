use Rattle.std.specs.Prelude.{◌≡◌, ◌++◌, refl}
use lib.Lanes.{pick_l}
use Rattle.aes_block.proofs.KeyBlocks.{of_places}
use Rattle.aes_lanes.specs.Places.{columns_on}
use Rattle.aes_lanes.specs.declared.rows.TheConstants.{THREE_COLUMNS}
use Rattle.aes_lanes.proofs.rows.three_columns_on.Goals as goal

pub returns : goal.returns
returns c = of_places 32 (λ x. pick_l 0 (x ++ x) THREE_COLUMNS ≡ columns_on 3 x) (λ z. refl) c.args.x c.fits-x.0

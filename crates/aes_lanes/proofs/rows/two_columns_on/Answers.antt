use Rattle.std.specs.Prelude.{◌≡◌, ◌++◌, refl}
use lib.Lanes.{pick_l}
use Rattle.aes_block.proofs.KeyBlocks.{of_places}
use Rattle.aes_lanes.specs.Places.{columns_on}
use Rattle.aes_lanes.specs.declared.rows.TheConstants.{TWO_COLUMNS}
use Rattle.aes_lanes.proofs.rows.two_columns_on.Goals as goal

pub returns : goal.returns
returns c = of_places 32 (λ x. pick_l 0 (x ++ x) TWO_COLUMNS ≡ columns_on 2 x) (λ z. refl) c.args.x c.fits-x.0

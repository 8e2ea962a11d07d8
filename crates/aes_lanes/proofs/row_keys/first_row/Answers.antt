use Rattle.std.specs.Prelude.{◌≡◌, ◌++◌, refl}
use lib.Lanes.{pick_l}
use Rattle.aes_block.proofs.KeyBlocks.{of_places}
use Rattle.aes_lanes.specs.RowKeys.{row_of}
use Rattle.aes_lanes.specs.declared.row_keys.TheConstants.{FIRST}
use Rattle.aes_lanes.proofs.row_keys.first_row.Goals as goal

pub returns : goal.returns
returns c = of_places 32 (λ x. pick_l 0 (x ++ x) FIRST ≡ row_of 0 x) (λ z. refl) c.args.x c.fits-x.0

use Rattle.std.specs.Prelude.{◌≡◌, ◌++◌, refl}
use lib.Lanes.{pick_l}
use Rattle.aes_block.proofs.KeyBlocks.{of_places}
use Rattle.aes_lanes.specs.Places.{by_rows}
use Rattle.aes_lanes.specs.declared.rows.TheConstants.{GROUPED}
use Rattle.aes_lanes.proofs.rows.grouped.Goals as goal

pub returns : goal.returns
returns c = of_places 32 (λ x. pick_l 0 (x ++ x) GROUPED ≡ by_rows x) (λ z. refl) c.args.x c.fits-x.0

use Rattle.std.specs.Prelude.{◌≡◌, ◌++◌, refl}
use lib.Lanes.{pick_l}
use Rattle.aes_block.proofs.KeyBlocks.{of_places}
use Rattle.aes_lanes.specs.declared.rows.TheConstants.{BOTH_HALVES}
use Rattle.aes_lanes.proofs.rows.in_both.Goals as goal

pub returns : goal.returns
returns c = of_places 16 (λ x. pick_l 0 (x ++ x) BOTH_HALVES ≡ x ++ x) (λ z. refl) c.args.x c.fits-x.0

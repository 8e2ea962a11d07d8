use Rattle.std.specs.Prelude.{◌≡◌, ◌++◌, take, refl}
use lib.Lanes.{pick_l}
use Rattle.aes_block.proofs.KeyBlocks.{of_places}
use Rattle.aes_lanes.specs.declared.one_block.TheConstants.{FRONT}
use Rattle.aes_lanes.proofs.one_block.front_of.Goals as goal

pub returns : goal.returns
returns c = of_places 32 (λ x. pick_l 0 (x ++ x) FRONT ≡ take 16 x) (λ z. refl) c.args.x c.fits-x.0

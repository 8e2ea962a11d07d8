use Rattle.std.specs.Prelude.{◌≡◌, ◌++◌, drop}
use lib.Lanes.{pick_l}
use Rattle.aes_block.proofs.KeyBlocks.{of_places}
use Rattle.aes_lanes.specs.declared.pairs.TheConstants.{SECOND}
use Rattle.aes_lanes.proofs.Halves.{dropped_places}
use Rattle.aes_lanes.proofs.pairs.second_of.Goals as goal

pub returns : goal.returns
returns c = of_places 32 (λ x. pick_l 0 (x ++ x) SECOND ≡ drop 16 x) dropped_places c.args.x c.fits-x.0

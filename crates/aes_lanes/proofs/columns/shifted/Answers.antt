use Rattle.std.specs.Prelude.{◌≡◌, ◌++◌}
use lib.Lanes.{pick_l}
use Rattle.std_defs.specs.Aes.{shift_rows}
use Rattle.aes_block.proofs.KeyBlocks.{of_places}
use Rattle.aes_lanes.specs.Pairs.{each_half}
use Rattle.aes_lanes.specs.declared.columns.TheConstants.{SHIFTED}
use Rattle.aes_lanes.proofs.Halves.{all_shifted}
use Rattle.aes_lanes.proofs.columns.shifted.Goals as goal

pub returns : goal.returns
returns c = of_places 32 (λ x. pick_l 0 (x ++ x) SHIFTED ≡ each_half shift_rows x) all_shifted c.args.x c.fits-x.0

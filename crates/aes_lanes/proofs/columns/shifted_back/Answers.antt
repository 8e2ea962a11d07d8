use Rattle.std.specs.Prelude.{◌≡◌, ◌++◌}
use lib.Lanes.{pick_l}
use Rattle.std_defs.specs.Aes.{inverse_shift_rows}
use Rattle.aes_block.proofs.KeyBlocks.{of_places}
use Rattle.aes_lanes.specs.Pairs.{each_half}
use Rattle.aes_lanes.specs.declared.columns.TheConstants.{SHIFTED_BACK}
use Rattle.aes_lanes.proofs.Halves.{all_shifted_back}
use Rattle.aes_lanes.proofs.columns.shifted_back.Goals as goal

pub returns : goal.returns
returns c = of_places 32 (λ x. pick_l 0 (x ++ x) SHIFTED_BACK ≡ each_half inverse_shift_rows x) all_shifted_back c.args.x c.fits-x.0

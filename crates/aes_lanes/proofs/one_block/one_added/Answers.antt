use Rattle.std.specs.Prelude.{refl}
use Rattle.aes_lanes.proofs.OneSealed.{sum_in_order}
use Rattle.aes_lanes.proofs.one_block.one_added.Goals as goal

pub returns : goal.returns
returns c = sum_in_order c.args.x c.args.y _ c.fits-x c.fits-y refl

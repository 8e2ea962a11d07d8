use Rattle.chacha_lanes.proofs.LaneFacts.{shifts_rotate}
use Rattle.chacha_lanes.proofs.lanes.xor_roll.Goals as goal

pub returns : goal.returns
returns c = shifts_rotate c.args.k c.requires.0 c.requires.1 c.args.a c.args.b c.fits-a.0 c.fits-b.0

use Rattle.sha_lanes.proofs.Matrix.{four_crossed}
use Rattle.sha_lanes.proofs.transposed.crossed.Goals as goal

pub returns : goal.returns
returns c = four_crossed c.args.a c.args.b c.args.c c.args.d c.fits-a.0 c.fits-b.0 c.fits-c.0 c.fits-d.0

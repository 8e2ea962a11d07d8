use Rattle.sha2.specs.Sha256.{add32}
use Rattle.sha_lanes.proofs.InStep.{lane}
use Rattle.sha_lanes.proofs.in_step.sum.Goals as goal

pub returns : goal.returns
returns c = λ n lt. lane add32 c.args.x c.args.y n c.fits-x.0 c.fits-y.0 lt

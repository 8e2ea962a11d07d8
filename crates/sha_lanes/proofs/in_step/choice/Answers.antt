use Rattle.sha_lanes.proofs.InStep.{chosen}
use Rattle.sha_lanes.proofs.in_step.choice.Goals as goal

pub returns : goal.returns
returns c = λ n lt. chosen c.args.x c.args.y c.args.z n c.fits-x.0 c.fits-y.0 c.fits-z.0 lt

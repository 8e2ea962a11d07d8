use Rattle.sha_lanes.proofs.Majority.{majority}
use Rattle.sha_lanes.proofs.rounds.majority.Goals as goal

pub returns : goal.returns
returns c = majority c.args.x c.args.y c.args.z

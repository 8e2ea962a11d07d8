use Rattle.shared_registry.proofs.Trials.{side_faithful}
use Rattle.shared_registry.proofs.laws.builds_interleave.Goals as goal

pub returns : goal.returns
returns c = side_faithful

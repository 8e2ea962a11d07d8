use Rattle.shared_registry.proofs.Working.{works_still, works_on}
use Rattle.shared_registry.proofs.laws.building_goes_on.Goals as goal

pub returns : goal.returns
returns c = record { still = works_still; on = works_on }

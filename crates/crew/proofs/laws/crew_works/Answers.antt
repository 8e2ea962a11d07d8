use Rattle.crew.proofs.Crews.{crew_works}
use Rattle.crew.proofs.laws.crew_works.Goals as goal

pub returns : goal.returns
returns g c by is_work = crew_works is_work by

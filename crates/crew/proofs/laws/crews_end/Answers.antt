use Rattle.crew.proofs.Crews.{crews_end}
use Rattle.crew.proofs.laws.crews_end.Goals as goal

pub returns : goal.returns
returns g c by is_work = crews_end is_work by

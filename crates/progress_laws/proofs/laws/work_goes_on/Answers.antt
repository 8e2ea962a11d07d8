use Rattle.progress_laws.proofs.Going.{goes_on, some_serves, stops_done}
use Rattle.progress_laws.proofs.Wanted.{work_is_wanted}
use Rattle.progress_laws.proofs.laws.work_goes_on.Goals as goal

pub returns : goal.returns
returns g c = record { goes_on = goes_on; some = some_serves; done = stops_done; wanted = work_is_wanted }

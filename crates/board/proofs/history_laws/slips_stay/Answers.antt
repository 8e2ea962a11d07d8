use Rattle.board.proofs.Staying.{slip_stays}
use Rattle.board.proofs.history_laws.slips_stay.Goals as goal

pub returns : goal.returns
returns g c = slip_stays

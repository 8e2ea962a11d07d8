use Rattle.board.proofs.Accepting.{work_leaves_accepted, work_finishes}
use Rattle.board.proofs.sharing_laws.workers_finish.Goals as goal

pub returns-clause-accepts : goal.returns-clause-accepts
returns-clause-accepts g c = work_leaves_accepted

pub returns-clause-finishes : goal.returns-clause-finishes
returns-clause-finishes g c = work_finishes

use Rattle.board.proofs.Alone.{peers_are_gone, peers_stay_gone, workers_are_left, work_alone}
use Rattle.board.proofs.sharing_laws.workers_are_left.Goals as goal

pub returns-clause-gone : goal.returns-clause-gone
returns-clause-gone g c = peers_are_gone

pub returns-clause-stay : goal.returns-clause-stay
returns-clause-stay g c = peers_stay_gone

pub returns-clause-left : goal.returns-clause-left
returns-clause-left g c = workers_are_left

pub returns-clause-alone : goal.returns-clause-alone
returns-clause-alone g c = work_alone

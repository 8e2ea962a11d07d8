use Rattle.board.proofs.Sharing.{shared_stays, makers_finish}
use Rattle.board.proofs.sharing_laws.shared_pipelines_stay.Goals as goal

pub returns-clause-stays : goal.returns-clause-stays
returns-clause-stays g c = shared_stays

pub returns-clause-finished : goal.returns-clause-finished
returns-clause-finished g c = makers_finish

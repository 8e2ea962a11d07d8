use Rattle.board.proofs.Closed.{all_finished}
use Rattle.board.proofs.Ends.{no_work_is_right, shut_is_last}
use Rattle.board.proofs.history_laws.work_ends.Goals as goal

pub returns-clause-all_finished : goal.returns-clause-all_finished
returns-clause-all_finished g c = all_finished

pub returns-clause-nothing_left : goal.returns-clause-nothing_left
returns-clause-nothing_left g c = no_work_is_right

pub returns-clause-shut_last : goal.returns-clause-shut_last
returns-clause-shut_last g c = shut_is_last

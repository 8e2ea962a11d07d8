use Rattle.turn_lock.specs.Passes.{knows}
use Rattle.crew.proofs.Works.{worked_still}
use Rattle.crew.proofs.board_work.run_and_finish.Goals as goal

pub returns-clause-finished : goal.returns-clause-finished
returns-clause-finished g c = (knows c.finish.result, c.finish.ensures.turn, worked_still (knows c.finish.result))

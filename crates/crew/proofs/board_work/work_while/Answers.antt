use Rattle.turn_lock.specs.Passes.{knows}
use Rattle.crew.proofs.Works.{worked_still, worked_on}
use Rattle.crew.proofs.board_work.work_while.Goals as goal

pub loop-init : goal.loop-init
loop-init g c = (tt, tt, c.requires, worked_still (knows c.args.pass))

pub loop-preserved : goal.loop-preserved
loop-preserved g c = (tt, tt, c.work_by-worked.ensures.lock, worked_on _ _ _ c.loop.invariant.3 c.work_by-worked.ensures.worked)

pub returns-then-not-found-clause-worked : goal.returns-then-not-found-clause-worked
returns-then-not-found-clause-worked g c = worked_on _ _ _ c.loop.invariant.3 c.work_by-worked.ensures.worked

use Rattle.turn_lock.specs.Passes.{knows}
use Rattle.crew.proofs.Works.{worked_still, worked_on, finished_worked}
use Rattle.crew.proofs.board_work.run_on.Goals as goal

pub loop-init : goal.loop-init
loop-init g c = (c.requires.lock, worked_still (knows c.args.pass), c.requires.took)

pub loop-preserved : goal.loop-preserved
loop-preserved g c =
    let r = c.run_and_take-worked.ensures in
    (r.lock, worked_on _ _ _ c.loop.invariant.1 (finished_worked c.pipelines_stay.ensures.finishing _ _ _ _ r.finished), r.took)

pub returns-in-Some-next-clause-worked : goal.returns-in-Some-next-clause-worked
returns-in-Some-next-clause-worked g c =
    worked_on _ _ _ c.loop.invariant.1 (finished_worked c.pipelines_stay.ensures.finishing _ _ _ _ c.run_and_finish.ensures.finished)

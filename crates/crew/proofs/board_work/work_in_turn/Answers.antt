use Rattle.turn_lock.specs.Passes.{knows}
use Rattle.crew.proofs.Works.{worked_on, passes_worked}
use Rattle.crew.proofs.board_work.work_in_turn.Goals as goal

pub returns-clause-worked : goal.returns-clause-worked
returns-clause-worked g c =
    worked_on (knows c.args.pass) (knows c.work_by-pass.result.0) (knows c.pass_on-pass.result.0) c.work_by-pass.ensures.worked
    (passes_worked c.pipelines_stay.ensures.passing (knows c.work_by-pass.result.0) (knows c.pass_on-pass.result.0) c.pass_on-pass.result.1 c.pass_on-pass.ensures.turn)

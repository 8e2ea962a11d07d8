use Rattle.std.proofs.Common.{◌≡◌, slice_get, Some}
use Rattle.turn_lock.specs.Passes.{knows}
use Rattle.board.specs.Entries.{entries_of, submissions, NoneFor}
use Rattle.board.specs.Legal.{MayFinish}
use Rattle.crew.proofs.Works.{worked_still, next_worked}
use Rattle.crew.proofs.board_work.run_and_take.Goals as goal

pub returns-then-may_be_shut-clause-finished : goal.returns-then-may_be_shut-clause-finished
returns-then-may_be_shut-clause-finished g c = (knows c.finish.result, c.finish.ensures.turn, worked_still (knows c.finish.result))

pub returns-clause-finished : goal.returns-clause-finished
returns-clause-finished g c =
    let t = c.finish_and_take.ensures.turn in
    let l = knows c.finish_and_take.result.0 in (
      t.0,
      t.1,
      next_worked t.0 l (λ v. v.slip.pipe) (λ v. v.slip.number) c.pipelines_stay.ensures.taking c.finish_and_take.result.1 (NoneFor t.0.seen t.0.number)
          (λ v. slice_get (submissions (entries_of v.slip.pipe t.0.seen)) v.slip.number ≡ Some (g.W.Work.asked v.job))
          (λ v. MayFinish g.W.Work.meaning (entries_of v.slip.pipe l.seen) t.0.number v.slip.number (g.W.Work.meaning (g.W.Work.asked v.job))) t.2,
    )

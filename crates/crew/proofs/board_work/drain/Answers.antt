use Rattle.std.proofs.Common.{refl, ◌∙◌, ap, ◌++◌, true, false, Ok, length}
use Rattle.board.specs.Entries.{entries_of, told, delivered, caller_of}
use Rattle.turn_lock.specs.Passes.{knows}
use Rattle.board.specs.Legal.{LegalBoard}
use Rattle.turn_lock.specs.TurnLaws.{at_ok, at_err}
use Rattle.crew.proofs.Works.{worked_still, worked_on, worked_none, managed_worked, open_worked}
use Rattle.crew.proofs.board_work.drain.Goals as goal

pub loop-init : goal.loop-init
loop-init g c = (tt, tt, c.requires.lock, worked_still (knows c.args.pass), refl)

pub try_drain-drained-requires-clause-caller : goal.try_drain-drained-requires-clause-caller
try_drain-drained-requires-clause-caller g c κs within =
    managed_worked c.others_leave.ensures.mine _ _ c.args.pipe (worked_on _ _ _ c.loop.invariant.3 c.work_while-worked.ensures.worked) c.requires.caller

pub try_drain-drained-requires-clause-pipe : goal.try_drain-drained-requires-clause-pipe
try_drain-drained-requires-clause-pipe g c κs within =
    open_worked c.others_leave.ensures.mine _ _ c.args.pipe (worked_on _ _ _ c.loop.invariant.3 c.work_while-worked.ensures.worked) c.requires.caller c.requires.pipe

pub returns-in-Ok-true-clause-drained : goal.returns-in-Ok-true-clause-drained
returns-in-Ok-true-clause-drained g c =
    let t = at_ok caller_of (λ xs. LegalBoard xs) (knows c.work_while-worked.result) c.try_drain-drained.result.1 true _ _ (c.in-Ok-true.is ∙ ap Ok c.in-Ok-true.field-0-test) c.try_drain-drained.ensures.turn in
    (knows c.work_while-worked.result, worked_on _ _ _ c.loop.invariant.3 c.work_while-worked.ensures.worked, (t.0, t.1, (t.2.0, t.2.1 ∙ ap (λ xs. xs ++ delivered g.W.Work.meaning (entries_of c.args.pipe t.0) (length (told (entries_of c.args.pipe t.0)))) c.loop.invariant.4, t.2.2)))

pub returns-in-Err-clause-drained : goal.returns-in-Err-clause-drained
returns-in-Err-clause-drained g c =
    let t = at_err caller_of (λ xs. LegalBoard xs) (knows c.work_while-worked.result) c.try_drain-drained.result.1 c.in-Err.error _ _ c.in-Err.is c.try_drain-drained.ensures.turn in
    (t.2.0, t.2.1 ∙ c.loop.invariant.4, worked_on _ _ _ (worked_on _ _ _ c.loop.invariant.3 c.work_while-worked.ensures.worked) (worked_none _ _ (t.0, t.1, t.2.2)))

pub loop-preserved : goal.loop-preserved
loop-preserved g c =
    let t = at_ok caller_of (λ xs. LegalBoard xs) (knows c.work_while-worked.result) c.try_drain-drained.result.1 false _ _ (c.in-Ok-false.is ∙ ap Ok c.in-Ok-false.field-0-test) c.try_drain-drained.ensures.turn in
    (tt, tt, c.work_by-tried.ensures.lock, worked_on _ _ _ (worked_on _ _ _ (worked_on _ _ _ c.loop.invariant.3 c.work_while-worked.ensures.worked) (worked_none _ _ (t.0, t.1, t.2.2))) c.work_by-tried.ensures.worked, t.2.1 ∙ c.loop.invariant.4)

use Rattle.std.proofs.Common.{ap, inl}
use Rattle.turn_lock.specs.Passes.{knows}
use Rattle.board.specs.Entries.{caller_of}
use Rattle.board.specs.Legal.{LegalBoard}
use Rattle.turn_lock.specs.TurnLaws.{at_some, at_none}
use Rattle.crew.proofs.Works.{finished_on, first_worked, two_turns, passed_worked, passed_some}
use Rattle.crew.proofs.board_work.work_by.Goals as goal

pub run_and_take-pass-requires-clause-took : goal.run_and_take-pass-requires-clause-took
run_and_take-pass-requires-clause-took g c κs within =
    let t = at_some caller_of (λ xs. LegalBoard xs) (knows c.args.pass) c.take_or_pass_on-pass.result.1 c.in-Some.job _ _ c.in-Some.is c.take_or_pass_on-pass.ensures.turn in
    rw (ap (λ n. n.number) t.2.1.0) t.2.2

pub returns-in-Some-clause-some : goal.returns-in-Some-clause-some
returns-in-Some-clause-some g c =
    let t = at_some caller_of (λ xs. LegalBoard xs) (knows c.args.pass) c.take_or_pass_on-pass.result.1 c.in-Some.job _ _ c.in-Some.is c.take_or_pass_on-pass.ensures.turn in
    let p = c.in-Some.job.slip.pipe in let n = c.in-Some.job.slip.number in
    inl (knows c.take_or_pass_on-pass.result.0, p, n, (t.0, t.1, t.2.1), finished_on (knows c.take_or_pass_on-pass.result.0) _ (knows c.run_on-pass.result.0) p n c.run_and_take-pass.ensures.finished c.run_on-pass.ensures.worked)

pub returns-in-Some-clause-worked : goal.returns-in-Some-clause-worked
returns-in-Some-clause-worked g c =
    let t = at_some caller_of (λ xs. LegalBoard xs) (knows c.args.pass) c.take_or_pass_on-pass.result.1 c.in-Some.job _ _ c.in-Some.is c.take_or_pass_on-pass.ensures.turn in
    let p = c.in-Some.job.slip.pipe in let n = c.in-Some.job.slip.number in
    first_worked c.pipelines_stay.ensures.taking c.pipelines_stay.ensures.finishing (knows c.args.pass) (knows c.run_on-pass.result.0)
    (knows c.take_or_pass_on-pass.result.0, p, n, (t.0, t.1, t.2.1), finished_on (knows c.take_or_pass_on-pass.result.0) _ (knows c.run_on-pass.result.0) p n c.run_and_take-pass.ensures.finished c.run_on-pass.ensures.worked)

pub returns-in-None-clause-some : goal.returns-in-None-clause-some
returns-in-None-clause-some g c =
    let r = c.take_or_pass_on-pass.result in
    let t = two_turns (knows c.args.pass) (knows r.0) r.2 (at_none caller_of (λ xs. LegalBoard xs) (knows c.args.pass) r.1 _ _ c.in-None.is c.take_or_pass_on-pass.ensures.turn) in
    passed_some (knows c.args.pass) t.0 (knows r.0) r.2 t.1 t.2

pub returns-in-None-clause-worked : goal.returns-in-None-clause-worked
returns-in-None-clause-worked g c =
    let r = c.take_or_pass_on-pass.result in
    let t = two_turns (knows c.args.pass) (knows r.0) r.2 (at_none caller_of (λ xs. LegalBoard xs) (knows c.args.pass) r.1 _ _ c.in-None.is c.take_or_pass_on-pass.ensures.turn) in
    passed_worked c.pipelines_stay.ensures.passing (knows c.args.pass) t.0 (knows r.0) r.2 t.1 t.2

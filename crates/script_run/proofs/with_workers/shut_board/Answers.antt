use Rattle.std.proofs.Common.{sym, ap, ◌∙◌}
use Rattle.turn_lock.specs.Passes.{knows}
use Rattle.script_run.proofs.Finishing.{shut-own, shut-closed, shut-stays, leaves-alone, shuts-alone, found-shut, now-shut}
use Rattle.script_run.proofs.with_workers.shut_board.Goals as goal

pub returns-clause-own : goal.returns-clause-own
returns-clause-own g c = shut-own (knows c.is_shut-pass.result.0) (knows c.shut.result) c.shut.ensures.turn

pub returns-clause-closed : goal.returns-clause-closed
returns-clause-closed g c = shut-closed (knows c.is_shut-pass.result.0) (knows c.shut.result) c.shut.ensures.turn

pub returns-clause-shut : goal.returns-clause-shut
returns-clause-shut g c shut =
    absurd (shut-stays (knows c.args.pass) (knows c.is_shut-pass.result.0) c.is_shut-pass.ensures.turn shut (sym c.is_shut-pass.ensures.shut ∙ c.if-shut.false))

pub returns-then-shut-clause-alone : goal.returns-then-shut-clause-alone
returns-then-shut-clause-alone g c = leaves-alone (knows c.args.pass) (knows c.is_shut-pass.result.0) c.is_shut-pass.ensures.turn

pub returns-clause-alone : goal.returns-clause-alone
returns-clause-alone g c = shuts-alone (knows c.args.pass) (knows c.is_shut-pass.result.0) (knows c.shut.result) c.is_shut-pass.ensures.turn c.shut.ensures.turn

pub returns-then-shut-clause-once : goal.returns-then-shut-clause-once
returns-then-shut-clause-once g c either =
    found-shut c.others_leave.ensures.own (knows c.args.pass) (knows c.is_shut-pass.result.0) c.requires.first c.is_shut-pass.ensures.turn (sym c.is_shut-pass.ensures.shut ∙ c.if-shut.true) either

pub returns-clause-once : goal.returns-clause-once
returns-clause-once g c either = now-shut (knows c.is_shut-pass.result.0) (knows c.shut.result) (ap (λ x. x.number) c.is_shut-pass.ensures.turn.2 ∙ c.requires.first) c.shut.ensures.turn

use Rattle.std.proofs.Common.{subst}
use Rattle.recorded_calls.specs.Passes.{known}
use Rattle.script_session.specs.Loans.{SharesAll}
use Rattle.script_session.proofs.Lends.{shares-then}
use Rattle.script_session.proofs.loans.share_lives.Goals as goal

pub returns-clause-shared : goal.returns-clause-shared
returns-clause-shared g c =
    let k = known c.args.caller.now in
    let l = known c.share_each.new.caller in (
      c.in_ok-shared.ensures.ok,
      shares-then c.args.lives.items k l (known c.meet.new.self) (subst (λ ls. SharesAll ls k l) c.as_slice.ensures.value c.in_ok-share_each.ensures.shared) c.meet.ensures.kept c.meet.ensures.lent,
    )

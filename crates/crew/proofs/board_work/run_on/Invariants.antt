use Rattle.std.specs.Prelude.{IfSome}
use Rattle.turn_lock.specs.Passes.{knows}
use Rattle.shared_board.specs.Passes.{IsPassOn}
use Rattle.crew.specs.BoardWork.{HasTaken, Worked}
use Rattle.crew.proofs.board_work.run_on.Given as goal

abbrev pub invariant-loop : goal.invariant-loop
invariant-loop g l =
    IsPassOn l.fn.board l.mine × Worked (knows l.fn.pass) (knows l.mine)
    × IfSome l.next (λ next. HasTaken g.W.Work.meaning (knows l.mine) next.slip.pipe next.slip.number (g.W.Work.asked next.job))

use Rattle.std.proofs.Common.{◌≡◌}
use Rattle.turn_lock.specs.Passes.{knows}
use Rattle.shared_board.specs.Passes.{IsPassOn}
use Rattle.crew.specs.BoardWork.{Worked}
use Rattle.crew.proofs.board_work.drain.Given as goal

abbrev pub invariant-loop : goal.invariant-loop
invariant-loop g l =
    (goal.iterator-loop g).can_next l.iterator' × (goal.iterator-loop g).is_finite l.iterator'
    × IsPassOn l.fn.board l.mine × Worked (knows l.fn.pass) (knows l.mine) × (l.into.list ≡ l.fn.into.list)

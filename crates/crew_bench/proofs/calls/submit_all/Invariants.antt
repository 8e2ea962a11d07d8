use Rattle.turn_lock.specs.Passes.{knows}
use Rattle.shared_board.specs.Passes.{IsPassOn}
use Rattle.crew_bench.specs.Ready.{Ready, StaysFirst}
use Rattle.crew_bench.proofs.calls.submit_all.Given as goal

abbrev pub invariant-loop : goal.invariant-loop
invariant-loop g l = IsPassOn l.fn.board l.mine × Ready l.fn.pipe (knows l.mine) × StaysFirst (knows l.fn.pass) (knows l.mine)

use Rattle.turn_lock.specs.Passes.{IsPassOf}
use Rattle.turn_lock.proofs.tests.append_each.Given as goal

abbrev pub invariant-loop-place : goal.invariant-loop-place
invariant-loop-place g l = IsPassOf l.fn.lock l.mine

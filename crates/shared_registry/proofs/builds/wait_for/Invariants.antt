use Rattle.turn_lock.specs.Passes.{knows}
use Rattle.shared_registry.specs.Passes.{IsPassOn}
use Rattle.shared_registry.specs.Within.{Idles}
use Rattle.shared_registry.proofs.builds.wait_for.Given as goal

-- the pass is the registry's, and has made no entry yet
abbrev pub invariant-loop : goal.invariant-loop
invariant-loop g l = IsPassOn l.registry l.mine × Idles (knows l.fn.pass) (knows l.mine)

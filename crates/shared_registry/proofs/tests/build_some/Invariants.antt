use Rattle.shared_registry.specs.Passes.{IsPassOn}
use Rattle.shared_registry.proofs.tests.build_some.Given as goal

abbrev pub invariant-loop : goal.invariant-loop
invariant-loop g l = IsPassOn l.registry l.mine

use Rattle.std.proofs.Common.{◌<◌, length}
use Rattle.alg_registry.specs.Rows.{texts}
use Rattle.turn_lock.specs.Passes.{knows}
use Rattle.shared_registry.specs.Passes.{IsPassOn}
use Rattle.crew_bench.proofs.asker.ask_until.Given as goal

abbrev pub invariant-loop : goal.invariant-loop
invariant-loop g l = IsPassOn l.registry l.mine × (l.larval < length (texts (knows l.mine).seen))

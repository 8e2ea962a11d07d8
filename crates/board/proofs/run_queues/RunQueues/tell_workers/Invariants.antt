use Rattle.std.proofs.Common.{◌≤◌}
use Rattle.board.specs.Entries.{IsMasked}
use Rattle.board.specs.RunQueues.{OwnAreTold}
use Rattle.board.proofs.run_queues.RunQueues.tell_workers.Given as goal

abbrev pub invariant-loop-before : goal.invariant-loop-before
invariant-loop-before l = OwnAreTold (λ c. IsMasked l.mask c × (c ≤ l.before)) l.pipe l.has_job l.initial.self l.self

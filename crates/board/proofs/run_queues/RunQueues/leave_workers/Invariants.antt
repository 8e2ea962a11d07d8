use Rattle.std.proofs.Common.{◌≡◌}
use Rattle.board.specs.RunQueue.{KeepsOthers}
use Rattle.board.specs.RunQueues.{AreMade}
use Rattle.board.proofs.run_queues.RunQueues.leave_workers.Given as goal

abbrev pub invariant-loop-before : goal.invariant-loop-before
invariant-loop-before l = (l.self.queues ≡ l.initial.self.queues) × AreMade (KeepsOthers l.pipe) l.initial.self.own l.self.own

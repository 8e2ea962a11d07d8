use Rattle.std.proofs.Common.{ℕ, ◌≤◌}
use Rattle.board.specs.Entries.{IsMasked}
use Rattle.board.specs.RunQueue.{Keeps, IsMember}
use Rattle.board.specs.RunQueues.{queue_for, IsMade}
use Rattle.board.proofs.run_queues.RunQueues.join_workers.Given as goal

abbrev pub invariant-loop-before : goal.invariant-loop-before
invariant-loop-before l =
    IsMade Keeps l.initial.self l.self × ((worker : ℕ) → IsMasked l.mask worker → worker ≤ l.before → IsMember (queue_for worker l.self.own) l.pipe)

use Rattle.std.proofs.Common.{◌≡◌, true, take}
use Rattle.board.specs.Entries.{has}
use Rattle.board.specs.RunQueues.{OwnAreTold}
use Rattle.board.proofs.run_queues.RunQueues.tell_each.Given as goal

abbrev pub invariant-loop-caller : goal.invariant-loop-caller
invariant-loop-caller l = OwnAreTold (λ c. has c (take l.caller-index l.callers) ≡ true) l.pipe l.has_job l.initial.self l.self

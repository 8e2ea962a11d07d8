use Rattle.board.specs.RunQueues.{LetsGo}
use Rattle.board.proofs.run_queues.RunQueues.expel_workers.Given as goal

abbrev pub invariant-loop-before : goal.invariant-loop-before
invariant-loop-before g l = LetsGo l.pipe l.place l.initial.self l.self

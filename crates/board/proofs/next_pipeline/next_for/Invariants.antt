use Rattle.board.specs.Places.{places}
use Rattle.board.specs.RunQueue.{HasJobFor, KeepsSuch}
use Rattle.board.proofs.next_pipeline.next_for.Given as goal

abbrev pub invariant-loop-k : goal.invariant-loop-k
invariant-loop-k g l = KeepsSuch (HasJobFor l.caller) (places l.pipes) l.initial.queue l.queue

abbrev pub decreases-loop-k : goal.decreases-loop-k
decreases-loop-k g l = l.queue.ready

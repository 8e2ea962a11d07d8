use Rattle.board.specs.Places.{places}
use Rattle.board.specs.RunQueue.{HasRequest, KeepsSuch}
use Rattle.board.proofs.next_pipeline.next_request.Given as goal

abbrev pub invariant-loop-k : goal.invariant-loop-k
invariant-loop-k g l = KeepsSuch HasRequest (places l.pipes) l.initial.passing l.passing

abbrev pub decreases-loop-k : goal.decreases-loop-k
decreases-loop-k g l = l.passing.ready

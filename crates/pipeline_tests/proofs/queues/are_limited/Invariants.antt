use Rattle.board.specs.PipelineHistory.{IsOpenFor}
use Rattle.board.specs.Shapes.{has_queue}
use Rattle.pipeline_tests.proofs.queues.are_limited.Given as goal

-- the queue stays open to its maker
abbrev pub invariant-loop-bytes : goal.invariant-loop-bytes
invariant-loop-bytes l = IsOpenFor has_queue l.board l.pipe 0

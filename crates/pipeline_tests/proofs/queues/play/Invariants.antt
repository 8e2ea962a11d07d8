use Rattle.board.specs.PipelineHistory.{IsOpenFor}
use Rattle.board.specs.Shapes.{has_queue}
use Rattle.pipeline_tests.proofs.queues.play.Given as goal

-- the queue stays open to its maker
abbrev pub invariant-loop-step : goal.invariant-loop-step
invariant-loop-step g l = IsOpenFor has_queue l.board l.pipe 0

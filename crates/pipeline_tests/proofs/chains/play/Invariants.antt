use Rattle.board.specs.Shapes.{has_queue}
use Rattle.board.specs.PipelineHistory.{IsOpenFor}
use Rattle.pipeline_tests.proofs.chains.play.Given as goal

-- the chain stays open to its maker
abbrev pub invariant-loop-step : goal.invariant-loop-step
invariant-loop-step g l = IsOpenFor has_queue l.board l.pipe 0

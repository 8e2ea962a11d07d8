use Rattle.board.specs.PipelineHistory.{IsOpenFor}
use Rattle.board.specs.Shapes.{is_pad}
use Rattle.pipeline_tests.proofs.pads.play.Given as goal

-- the pad stays open to its maker
abbrev pub invariant-loop-step : goal.invariant-loop-step
invariant-loop-step g l = IsOpenFor is_pad l.board l.pipe 0

use Rattle.board.specs.PipelineHistory.{IsOpenFor}
use Rattle.board.specs.Shapes.{is_pad}
use Rattle.pipeline_tests.proofs.pads.each_caller_has_1048576_requests.Given as goal

-- the pad stays open to its maker
abbrev pub invariant-loop-number : goal.invariant-loop-number
invariant-loop-number g l = IsOpenFor is_pad l.board l.pipe 0

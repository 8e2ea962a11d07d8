use Rattle.board.specs.PipelineHistory.{IsOpenFor}
use Rattle.board.specs.Shapes.{is_pad}
use Rattle.pipeline_tests.proofs.pads.are_limited.Given as goal

-- the pad stays open to the caller
abbrev pub invariant-loop-bytes : goal.invariant-loop-bytes
invariant-loop-bytes l = IsOpenFor is_pad l.board l.pipe l.caller

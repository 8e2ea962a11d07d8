use Rattle.std.proofs.Common.{refl, inl}
use Rattle.board.specs.Shapes.{has_queue}
use Rattle.pipeline_tests.proofs.Staying.{open_after}
use Rattle.pipeline_tests.proofs.queues.offer.Goals as goal

pub returns : goal.returns
returns g c = open_after has_queue c.pipelines_stay.ensures.managed (c.pipelines_stay.ensures.stays_open has_queue) _ _ _ c.args.pipe c.args.caller (inl c.in_ok-answer.ensures.answered.1.2) refl c.requires

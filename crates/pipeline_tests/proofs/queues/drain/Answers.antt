use Rattle.std.proofs.Common.{refl}
use Rattle.board.specs.Shapes.{has_queue}
use Rattle.pipeline_tests.proofs.Staying.{drained, open_after}
use Rattle.pipeline_tests.proofs.queues.drain.Goals as goal

pub returns : goal.returns
returns g c = open_after has_queue c.pipelines_stay.ensures.managed (c.pipelines_stay.ensures.stays_open has_queue) _ _ _ c.args.pipe 0 (drained _ _ _ c.try_drain.result c.try_drain.ensures.board) refl c.requires

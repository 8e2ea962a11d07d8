use Rattle.std.proofs.Common.{refl}
use Rattle.board.specs.Shapes.{is_pad}
use Rattle.pipeline_tests.proofs.Staying.{done, open_after}
use Rattle.pipeline_tests.proofs.pads.poll.Goals as goal

pub returns : goal.returns
returns g c = open_after is_pad c.pipelines_stay.ensures.managed (c.pipelines_stay.ensures.stays_open is_pad) _ _ _ c.args.pipe 0 (done _ _ _ c.poll.result c.poll.ensures.board) refl c.requires

use Rattle.std.proofs.Common.{refl}
use Rattle.board.specs.Shapes.{has_queue}
use Rattle.pipeline_tests.proofs.Staying.{done, open_after, slip_after}
use Rattle.pipeline_tests.proofs.queues.poll.Goals as goal

pub returns-clause-open : goal.returns-clause-open
returns-clause-open g c = open_after has_queue c.pipelines_stay.ensures.managed (c.pipelines_stay.ensures.stays_open has_queue) _ _ _ c.args.pipe 0 (done _ _ _ c.poll.result c.poll.ensures.board) refl c.requires

pub returns-clause-others : goal.returns-clause-others
returns-clause-others g c = λ other p n out apart m.
    slip_after g.W.Work.meaning (c.slips_stay.ensures g.W.Work.meaning) _ _ _ p other n out (done _ _ _ c.poll.result c.poll.ensures.board) c.poll.ensures.legal apart m

use Rattle.std.proofs.Common.{refl}
use Rattle.board.specs.Shapes.{is_pad}
use Rattle.pipeline_tests.proofs.Staying.{drained, open_after, slip_after}
use Rattle.pipeline_tests.proofs.pads.drain.Goals as goal

pub returns-clause-open : goal.returns-clause-open
returns-clause-open g c = open_after is_pad c.pipelines_stay.ensures.managed (c.pipelines_stay.ensures.stays_open is_pad) _ _ _ c.args.pipe 0 (drained _ _ _ c.try_drain.result c.try_drain.ensures.board) refl c.requires

pub returns-clause-others : goal.returns-clause-others
returns-clause-others g c = λ other p n out apart m.
    slip_after g.W.Work.meaning (c.slips_stay.ensures g.W.Work.meaning) _ _ _ p other n out (drained _ _ _ c.try_drain.result c.try_drain.ensures.board) c.try_drain.ensures.legal apart m

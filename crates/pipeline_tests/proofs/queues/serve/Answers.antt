use Rattle.std.proofs.Common.{sym, ◌∙◌, inl}
use Rattle.board.specs.Shapes.{has_queue}
use Rattle.pipeline_tests.proofs.Staying.{open_after, slip_after}
use Rattle.pipeline_tests.proofs.queues.serve.Goals as goal

pub returns-in-Some-clause-open : goal.returns-in-Some-clause-open
returns-in-Some-clause-open g c =
    let t = c.pipelines_stay.ensures.taking c.args.board.now c.args.worker c.in-Some.field-0.slip.pipe c.in-Some.field-0.slip.number in
    let f = c.pipelines_stay.ensures.finishing c.take.new.self c.args.worker c.in-Some.field-0.slip.pipe c.in-Some.field-0.slip.number in
    let taken = open_after has_queue c.pipelines_stay.ensures.managed (c.pipelines_stay.ensures.stays_open has_queue) _ _ _ c.args.pipe 0 (inl c.in-Some.ensures.taken.0) t.2 c.requires in
    open_after has_queue c.pipelines_stay.ensures.managed (c.pipelines_stay.ensures.stays_open has_queue) _ _ _ c.args.pipe 0 (inl c.finish.ensures.finished) f.2 taken

pub returns-in-Some-clause-others : goal.returns-in-Some-clause-others
returns-in-Some-clause-others g c = λ other p n out apart m.
    let t = c.pipelines_stay.ensures.taking c.args.board.now c.args.worker c.in-Some.field-0.slip.pipe c.in-Some.field-0.slip.number in
    let f = c.pipelines_stay.ensures.finishing c.take.new.self c.args.worker c.in-Some.field-0.slip.pipe c.in-Some.field-0.slip.number in
    let stays = c.slips_stay.ensures g.W.Work.meaning in
    let taken = slip_after g.W.Work.meaning stays _ _ _ p other n out (inl c.in-Some.ensures.taken.0) c.in-Some.ensures.legal (λ h. apart (sym t.1 ∙ h)) m in
    slip_after g.W.Work.meaning stays _ _ _ p other n out (inl c.finish.ensures.finished) c.finish.ensures.legal (λ h. apart (sym f.1 ∙ h)) taken

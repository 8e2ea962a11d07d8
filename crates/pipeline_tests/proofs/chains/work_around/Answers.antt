use Rattle.std.proofs.Common.{ap, sym, ◌∙◌, ◌≡◌, Some, inl}
use Rattle.board.specs.Shapes.{has_queue}
use Rattle.pipeline_tests.proofs.Staying.{open_after, slip_after}
use Rattle.pipeline_tests.proofs.chains.work_around.Goals as goal

pub serve-requires-after_bounds : goal.serve-requires-after_bounds
serve-requires-after_bounds g c κs within = open_after has_queue c.pipelines_stay.ensures.managed (c.pipelines_stay.ensures.stays_open has_queue) _ _ _ c.args.pipe 0 (inl c.in-Some.ensures.taken.0) (c.pipelines_stay.ensures.taking c.args.board.now 2 c.in-Some.field-0.slip.pipe c.in-Some.field-0.slip.number).2 c.requires

pub finish-requires-clause-took : goal.finish-requires-clause-took
finish-requires-clause-took g c κs within = (c.serve.ensures.others 2 c.in-Some.field-0.slip.pipe c.in-Some.field-0.slip.number _ (λ (h : 3 ≡ 2). cc) c.in-Some.ensures.ready).0

pub finish-requires-clause-once : goal.finish-requires-clause-once
finish-requires-clause-once g c κs within = (c.serve.ensures.others 2 c.in-Some.field-0.slip.pipe c.in-Some.field-0.slip.number _ (λ (h : 3 ≡ 2). cc) c.in-Some.ensures.ready).1

pub finish-requires-clause-right : goal.finish-requires-clause-right
finish-requires-clause-right g c κs within = (c.serve.ensures.others 2 c.in-Some.field-0.slip.pipe c.in-Some.field-0.slip.number _ (λ (h : 3 ≡ 2). cc) c.in-Some.ensures.ready).2 ∙ ap Some (sym c.run-out.ensures)

pub returns-in-Some-clause-open : goal.returns-in-Some-clause-open
returns-in-Some-clause-open g c = open_after has_queue c.pipelines_stay.ensures.managed (c.pipelines_stay.ensures.stays_open has_queue) _ _ _ c.args.pipe 0 (inl c.finish.ensures.finished) (c.pipelines_stay.ensures.finishing c.serve.new.board 2 c.in-Some.field-0.slip.pipe c.in-Some.field-0.slip.number).2 c.serve.ensures.open

pub returns-in-Some-clause-first : goal.returns-in-Some-clause-first
returns-in-Some-clause-first g c = λ p n out m.
    let t = c.pipelines_stay.ensures.taking c.args.board.now 2 c.in-Some.field-0.slip.pipe c.in-Some.field-0.slip.number in
    let f = c.pipelines_stay.ensures.finishing c.serve.new.board 2 c.in-Some.field-0.slip.pipe c.in-Some.field-0.slip.number in
    let stays = c.slips_stay.ensures g.W.Work.meaning in
    let taken = slip_after g.W.Work.meaning stays _ _ _ p 1 n out (inl c.in-Some.ensures.taken.0) c.in-Some.ensures.legal (λ h. (let e : 2 ≡ 1 = sym t.1 ∙ h in cc)) m in
    let worked = c.serve.ensures.others 1 p n out (λ (h : 3 ≡ 1). cc) taken in
    slip_after g.W.Work.meaning stays _ _ _ p 1 n out (inl c.finish.ensures.finished) c.finish.ensures.legal (λ h. (let e : 2 ≡ 1 = sym f.1 ∙ h in cc)) worked

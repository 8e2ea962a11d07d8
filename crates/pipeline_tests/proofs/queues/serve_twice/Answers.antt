use Rattle.std.proofs.Common.{ap, sym, ◌∙◌, ◌≡◌, Some, inl}
use Rattle.board.specs.Shapes.{has_queue}
use Rattle.pipeline_tests.proofs.Staying.{open_after}
use Rattle.pipeline_tests.proofs.queues.serve_twice.Goals as goal

pub serve-found-requires-after_bounds : goal.serve-found-requires-after_bounds
serve-found-requires-after_bounds g c κs within = open_after has_queue c.pipelines_stay.ensures.managed (c.pipelines_stay.ensures.stays_open has_queue) _ _ _ c.args.pipe 0 (inl c.in-Some.ensures.taken.0) (c.pipelines_stay.ensures.taking c.args.board.now 1 c.in-Some.first.slip.pipe c.in-Some.first.slip.number).2 c.requires

pub finish-requires-clause-took : goal.finish-requires-clause-took
finish-requires-clause-took g c κs within =
    (c.serve-found.ensures.others 1 c.in-Some.first.slip.pipe c.in-Some.first.slip.number _ (λ (h : 2 ≡ 1). cc) c.in-Some.ensures.ready).0

pub finish-requires-clause-once : goal.finish-requires-clause-once
finish-requires-clause-once g c κs within =
    (c.serve-found.ensures.others 1 c.in-Some.first.slip.pipe c.in-Some.first.slip.number _ (λ (h : 2 ≡ 1). cc) c.in-Some.ensures.ready).1

pub finish-requires-clause-right : goal.finish-requires-clause-right
finish-requires-clause-right g c κs within =
    (c.serve-found.ensures.others 1 c.in-Some.first.slip.pipe c.in-Some.first.slip.number _ (λ (h : 2 ≡ 1). cc) c.in-Some.ensures.ready).2 ∙ ap Some (sym c.run-out.ensures)

pub returns : goal.returns
returns g c = open_after has_queue c.pipelines_stay.ensures.managed (c.pipelines_stay.ensures.stays_open has_queue) _ _ _ c.args.pipe 0 (inl c.finish.ensures.finished) (c.pipelines_stay.ensures.finishing c.serve-found.new.board 1 c.in-Some.first.slip.pipe c.in-Some.first.slip.number).2 c.serve-found.ensures.open

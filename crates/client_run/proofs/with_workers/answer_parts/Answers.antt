use Rattle.std.proofs.Common.{refl, ◌∙◌}
use Rattle.std.specs.Arc.{arc_value}
use Rattle.client_run.proofs.Joins.{ok-map, ok-of, left-at-once}
use Rattle.client_run.proofs.with_workers.answer_parts.Goals as goal

pub returns-in-Ok-clause-answers : goal.returns-in-Ok-clause-answers
returns-in-Ok-clause-answers g c =
    let first = c.open_first-passes in
    let o = c.in-Ok.opened in
    ok-map _ _ c.answer_rest.result.1
    (λ now rest. record {
      shared = arc_value o.shared;
      opened = first.result.0;
      registry_zero = first.ensures.registry.number ∙ c.requires.new.registry.0;
      board_zero = first.ensures.board.more.number ∙ c.requires.new.board.0;
      opening = o.reply.text;
      bad_first = o.malformed;
      opens = ok-of _ first.result.1 o c.in-Ok.is first.ensures.opened;
      rest = rest;
    })
    c.answer_rest.ensures.answers

pub returns-in-Err-Memory-clause-left : goal.returns-in-Err-Memory-clause-left
returns-in-Err-Memory-clause-left g c =
    let first = c.open_first-passes in
    left-at-once c.end_laws.ensures.shut c.args.workers _ c.requires.few c.args.passes first.result.0 (record { board = c.shut.result; registry = first.result.0.registry }) c.requires.new c.requires.gave
    first.ensures.registry first.ensures.board refl c.shut.ensures.turn

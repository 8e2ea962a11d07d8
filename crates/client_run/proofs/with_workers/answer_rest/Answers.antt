use Rattle.std.proofs.Common.{refl, sym, subst}
use Rattle.script_session.specs.SharedEnd.{IsJoined}
use Rattle.std.specs.Arc.{arc_value}
use Rattle.turn_lock.specs.Passes.{knows}
use Rattle.client_run.specs.WithWorkers.{printed_by}
use Rattle.client_run.proofs.Joins.{ok-map, rest-joined, rest-gone, rest-unshut, rest-left, rest-answers}
use Rattle.client_run.proofs.with_workers.answer_rest.Goals as goal

pub end_all-on_board-requires-clause-joined : goal.end_all-on_board-requires-clause-joined
end_all-on_board-requires-clause-joined g c =
    let o = c.args.opened in
    let ran = c.run_peers-passes.ensures.ran in
    subst (λ lives. IsJoined lives (knows c.is_shut-on_board.result.0)) (sym c.deref.ensures)
    (rest-joined c.end_laws.ensures c.args.workers (arc_value o.shared) c.args.parts.now c.args.passes c.run_peers-passes.result.0 c.requires.opens.0 o.reply.text o.malformed c.requires.opens.1
    c.requires.first.0 c.requires.first.1 c.requires.gave c.requires.clients.0 _ ran.0 ran.2 (knows c.is_shut-on_board.result.0) c.is_shut-on_board.ensures.turn)

pub end_all-on_board-requires-clause-gone : goal.end_all-on_board-requires-clause-gone
end_all-on_board-requires-clause-gone g c =
    let o = c.args.opened in
    let ran = c.run_peers-passes.ensures.ran in
    rest-gone c.end_laws.ensures c.args.workers (arc_value o.shared) c.args.parts.now c.args.passes c.run_peers-passes.result.0 c.requires.opens.0 o.reply.text o.malformed c.requires.opens.1
    c.requires.first.0 c.requires.first.1 c.requires.gave c.requires.clients.0 _ ran.0 ran.2 (knows c.is_shut-on_board.result.0) c.is_shut-on_board.ensures.turn

pub end_all-on_board-requires-clause-unshut : goal.end_all-on_board-requires-clause-unshut
end_all-on_board-requires-clause-unshut g c =
    let o = c.args.opened in
    let ran = c.run_peers-passes.ensures.ran in
    rest-unshut c.end_laws.ensures c.args.workers (arc_value o.shared) c.args.parts.now c.args.passes c.run_peers-passes.result.0 c.requires.opens.0 o.reply.text o.malformed c.requires.opens.1
    c.requires.first.0 c.requires.first.1 c.requires.gave c.requires.clients.0 _ ran.0 ran.2 (knows c.is_shut-on_board.result.0) c.is_shut-on_board.ensures.turn

pub returns-clause-left : goal.returns-clause-left
returns-clause-left g c =
    let o = c.args.opened in
    let ran = c.run_peers-passes.ensures.ran in
    let ends = c.end_all-on_board in
    rest-left c.end_laws.ensures c.args.workers (arc_value o.shared) c.args.parts.now c.args.passes c.run_peers-passes.result.0 c.requires.opens.0 o.reply.text o.malformed c.requires.opens.1
    c.requires.first.0 c.requires.first.1 c.requires.gave c.requires.clients.0 _ ran.0 ran.2 (knows c.is_shut-on_board.result.0) c.is_shut-on_board.ensures.turn
    (record { board = ends.result.0; registry = c.run_peers-passes.result.0.registry }) refl ends.ensures.shut ends.ensures.next ends.ensures.ended

pub returns-clause-answers : goal.returns-clause-answers
returns-clause-answers g c =
    let o = c.args.opened in
    let ran = c.run_peers-passes.ensures.ran in
    let ends = c.end_all-on_board in
    ok-map _ _ ends.result.1
    (λ now holds. rest-answers c.end_laws.ensures c.args.workers (arc_value o.shared) c.args.parts.now c.args.passes c.run_peers-passes.result.0 c.requires.opens.0 o.reply.text o.malformed c.requires.opens.1
    c.requires.first.0 c.requires.first.1 c.requires.gave c.requires.clients.0 _ ran.0 ran.2 (knows c.is_shut-on_board.result.0) c.is_shut-on_board.ensures.turn
    (λ n p q x gives. gives.1) (record { board = ends.result.0; registry = c.run_peers-passes.result.0.registry }) refl (λ outs. outs.items) c.run_peers-passes.result.1 ran.1 (printed_by now) now.malformed c.deref.result.now c.deref.ensures holds)
    ends.ensures.done

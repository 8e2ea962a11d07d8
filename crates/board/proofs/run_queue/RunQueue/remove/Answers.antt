use Rattle.std.proofs.Common.{arith, ◌≡◌, ◌<◌, Some, sym, subst}
use Rattle.std.specs.Prelude.{slice_get}
use Rattle.board.specs.RunQueue.{IsQueued}
use Rattle.board.proofs.Queued.{found_place, found_first, not_found, same_number}
use Rattle.board.proofs.run_queue.RunQueue.remove.Goals as goal

pub returns-in-Some-clause-others : goal.returns-in-Some-clause-others
returns-in-Some-clause-others c p n =
    let here = subst (λ queue. slice_get queue.members c.in-Some.place ≡ Some c.args.pipe) c.self.view_is (found_place c.self.inside.members.keys c.args.pipe c.in-Some.place (sym c.in-Some.ensures.index)) in
    c.take_out.ensures.others p (λ e. n (same_number (slice_get c.args.self.now.members c.in-Some.place) p c.args.pipe e here))

pub returns-in-Some-clause-member : goal.returns-in-Some-clause-member
returns-in-Some-clause-member c m =
    let here = subst (λ queue. slice_get queue.members c.in-Some.place ≡ Some c.args.pipe) c.self.view_is (found_place c.self.inside.members.keys c.args.pipe c.in-Some.place (sym c.in-Some.ensures.index)) in
    (c.take_out.result, c.take_out.ensures.moved c.args.pipe here)

pub returns-in-Some-clause-fewer : goal.returns-in-Some-clause-fewer
returns-in-Some-clause-fewer c s =
    let t = subst (λ queue. IsQueued queue c.args.pipe) (sym c.self.view_is) s in
    let first = found_first c.self.inside.members.keys c.args.pipe c.in-Some.place t.0 (sym c.in-Some.ensures.index) t.2 in
    let l = t.1 in
    c.take_out.ensures.fewer (subst (λ queue. c.in-Some.place < queue.ready) c.self.view_is (omega (arith, first, l)))

pub returns-in_default-clause-fewer : goal.returns-in_default-clause-fewer
returns-in_default-clause-fewer c s =
    let t = subst (λ queue. IsQueued queue c.args.pipe) (sym c.self.view_is) s in
    absurd (not_found c.self.inside.members.keys c.args.pipe t.0 (sym c.in_default.ensures.index) t.2)

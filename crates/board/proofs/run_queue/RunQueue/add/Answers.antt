use Rattle.std.proofs.Common.{arith, ◌+◌, sym, subst}
use Rattle.board.specs.RunQueue.{KeepsPipe, IsMember, IsQueued}
use Rattle.board.proofs.Queued.{added_keeps, swapped_second, found_place, not_found}
use Rattle.board.proofs.run_queue.RunQueue.add.Goals as goal

pub returns-then-self-place-clause-kept : goal.returns-then-self-place-clause-kept
returns-then-self-place-clause-kept c p =
    subst (λ queue. KeepsPipe queue (record { members = c.swap_indices.new.self.keys; ready = c.self.inside.ready + 1 }) p) c.self.view_is
    (rw c.swap_indices.ensures.keys (added_keeps c.self.inside.members.keys c.self.inside.ready c.in-Some.place p c.in-Some.ensures.within c.if-self-place.true))

pub returns-then-self-place-clause-added : goal.returns-then-self-place-clause-added
returns-then-self-place-clause-added c m = (
  c.self.inside.ready,
  omega arith,
  rw c.swap_indices.ensures.keys (swapped_second c.self.inside.members.keys c.in-Some.place c.self.inside.ready c.in-Some.ensures.within (omega (arith, c.in-Some.ensures.within, c.if-self-place.true)) c.args.pipe (found_place c.self.inside.members.keys c.args.pipe c.in-Some.place (sym c.in-Some.ensures.index))),
)

pub returns-else-self-place-clause-added : goal.returns-else-self-place-clause-added
returns-else-self-place-clause-added c m =
    subst (λ queue. IsQueued queue c.args.pipe) c.self.view_is
    (c.in-Some.place, omega (arith, c.if-self-place.false), found_place c.self.inside.members.keys c.args.pipe c.in-Some.place (sym c.in-Some.ensures.index))

pub returns-in_default-clause-added : goal.returns-in_default-clause-added
returns-in_default-clause-added c m = absurd (subst (λ queue. IsMember queue c.args.pipe → ⊥) c.self.view_is (λ m. not_found c.self.inside.members.keys c.args.pipe m.0 (sym c.in_default.ensures.index) m.1) m)

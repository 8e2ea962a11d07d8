use Rattle.std.proofs.Common.{arith, ◌≡◌, ◌-◌, ◌<◌, length, Some, sym, subst}
use Rattle.std.specs.Prelude.{slice_get}
use Rattle.board.specs.RunQueue.{KeepsPipe}
use Rattle.board.proofs.Queued.{taken_keeps}
use Rattle.board.proofs.run_queue.RunQueue.take_out.Goals as goal

pub returns-clause-others : goal.returns-clause-others
returns-clause-others c p other =
    let w : c.args.place < length c.self.inside.members.keys = subst (λ queue. c.args.place < length queue.members) (sym c.self.view_is) c.requires in
    let o = subst (λ queue. slice_get queue.members c.args.place ≡ Some p → ⊥) (sym c.self.view_is) other in
    subst (λ queue. KeepsPipe queue (record { members = c.swap_indices.new.self.keys; ready = c.self.inside.ready - 1 }) p) c.self.view_is
    (rw c.swap_indices.ensures.keys (taken_keeps c.self.inside.members.keys c.self.inside.ready c.args.place p w (omega (arith, c.if-self-place.false)) c.self.invariant o))

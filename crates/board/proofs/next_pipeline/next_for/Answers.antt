use Rattle.std.proofs.Common.{sym, subst}
use Rattle.board.specs.Places.{places}
use Rattle.board.specs.RunQueue.{HasJobFor, KeepsSuch}
use Rattle.board.proofs.RunQueuesHold.{dropped, none_stands}
use Rattle.board.proofs.next_pipeline.next_for.Goals as goal

pub returns-then-has_job_at-clause-kept : goal.returns-then-has_job_at-clause-kept
returns-then-has_job_at-clause-kept g c = subst (λ queue. KeepsSuch (HasJobFor c.args.caller) (places c.args.pipes.now) c.args.queue.now queue) (sym c.next.ensures.same) c.loop-k.invariant

pub loop-k-preserved : goal.loop-k-preserved
loop-k-preserved g c =
    dropped (HasJobFor c.args.caller) (places c.args.pipes.now) c.args.queue.now c.next.new.self c.remove.new.self c.in-Some.k
    (subst (λ queue. KeepsSuch (HasJobFor c.args.caller) (places c.args.pipes.now) c.args.queue.now queue) (sym c.next.ensures.same) c.loop-k.invariant) c.remove.ensures.others c.remove.ensures.member c.if-has_job_at.ensures

pub returns-clause-kept : goal.returns-clause-kept
returns-clause-kept g c = subst (λ queue. KeepsSuch (HasJobFor c.args.caller) (places c.args.pipes.now) c.args.queue.now queue) (sym c.next.ensures.same) c.loop-k.invariant

pub returns-clause-next : goal.returns-clause-next
returns-clause-next g c = none_stands (HasJobFor c.args.caller) (places c.args.pipes.now) c.args.queue.now c.loop-k.queue c.loop-k.invariant c.in_default.ensures.next

use Rattle.std.proofs.Common.{sym, subst}
use Rattle.board.specs.Places.{places}
use Rattle.board.specs.RunQueue.{HasRequest, KeepsSuch}
use Rattle.board.proofs.RunQueuesHold.{dropped, none_stands}
use Rattle.board.proofs.next_pipeline.next_request.Goals as goal

pub returns-then-has_request_at-clause-kept : goal.returns-then-has_request_at-clause-kept
returns-then-has_request_at-clause-kept g c = subst (λ queue. KeepsSuch HasRequest (places c.args.pipes.now) c.args.passing.now queue) (sym c.next.ensures.same) c.loop-k.invariant

pub loop-k-preserved : goal.loop-k-preserved
loop-k-preserved g c =
    dropped HasRequest (places c.args.pipes.now) c.args.passing.now c.next.new.self c.remove.new.self c.in-Some.k
    (subst (λ queue. KeepsSuch HasRequest (places c.args.pipes.now) c.args.passing.now queue) (sym c.next.ensures.same) c.loop-k.invariant) c.remove.ensures.others c.remove.ensures.member c.if-has_request_at.ensures

pub returns-clause-kept : goal.returns-clause-kept
returns-clause-kept g c = subst (λ queue. KeepsSuch HasRequest (places c.args.pipes.now) c.args.passing.now queue) (sym c.next.ensures.same) c.loop-k.invariant

pub returns-clause-next : goal.returns-clause-next
returns-clause-next g c = none_stands HasRequest (places c.args.pipes.now) c.args.passing.now c.loop-k.passing c.loop-k.invariant c.in_default.ensures.next

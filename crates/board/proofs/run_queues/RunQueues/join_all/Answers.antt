use Rattle.std.proofs.Common.{◌∙◌}
use Rattle.std.proofs.lemmas.Bool.{both_ways}
use Rattle.board.specs.RunQueues.{queue_for}
use Rattle.board.proofs.RunQueuesHold.{same_keeps, queues_on, ok_map}
use Rattle.board.proofs.run_queues.RunQueues.join_all.Goals as goal

pub returns-then-is_queue-clause-kept : goal.returns-then-is_queue-clause-kept
returns-then-is_queue-clause-kept g c = rw (← c.self.view_is) (c.join.ensures.kept, λ caller. same_keeps (queue_for caller (record { first = c.self.inside.first.items; others = c.self.inside.others.entries })))

pub returns-clause-kept : goal.returns-clause-kept
returns-clause-kept g c = queues_on c.args.self.now c.join-2.new.self c.join_workers.new.self c.in_ok-join.ensures.kept c.join_workers.ensures.kept

pub returns-clause-joined : goal.returns-clause-joined
returns-clause-joined g c =
    ok_map c.join_workers.result
    (λ h. record {
      queue = λ q. absurd (both_ways c.is_queue.result c.if-is_queue.false (c.is_queue.ensures ∙ q));
      maker = λ s. (c.join_workers.ensures.kept.1 c.args.new.now.maker c.args.pipe).0 c.in_ok-join.ensures.joined;
      workers = λ s worker m. h worker m;
    }) c.join_workers.ensures.joined

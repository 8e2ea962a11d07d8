use Rattle.std.proofs.Common.{◌∙◌, subst, sym}
use Rattle.board.specs.RunQueue.{KeepsOthers}
use Rattle.board.specs.RunQueues.{CallerQueues, queue_for}
use Rattle.board.proofs.RunQueuesHold.{others_on}
use Rattle.board.proofs.run_queues.RunQueues.leave.Goals as goal

pub returns : goal.returns
returns c =
    let own : CallerQueues = record { first = c.self.inside.first.items; others = c.self.inside.others.entries } in
    let queues = c.leave_workers.ensures.queues ∙ c.leave_own.ensures.queues in
    rw (← c.self.view_is) (
      subst (λ queue. KeepsOthers c.args.pipe c.self.inside.queues queue) (sym queues) c.leave.ensures.others,
      λ n. others_on c.args.pipe (queue_for n own) (queue_for n c.leave_own.new.self.own) (queue_for n c.leave_workers.new.self.own) (c.leave_own.ensures.made n) (c.leave_workers.ensures.made n),
    )

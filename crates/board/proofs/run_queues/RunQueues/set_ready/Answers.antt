use Rattle.std.proofs.Common.{◌∙◌, sym}
use Rattle.board.specs.RunQueues.{QueuesState}
use Rattle.board.proofs.RunQueuesMade.{queue_told, own_told}
use Rattle.board.proofs.run_queues.RunQueues.set_ready.Goals as goal

pub returns-then-is_queue : goal.returns-then-is_queue
returns-then-is_queue g c =
    let run_queues : QueuesState = record { queues = c.self.inside.queues; own = record { first = c.self.inside.first.items; others = c.self.inside.others.entries } } in
    rw (← c.self.view_is) (queue_told c.args.pipe c.args.place.now c.args.had_job c.args.has_job run_queues c.set.new.self (sym c.is_queue.ensures ∙ c.if-is_queue.true) c.set.ensures)

pub returns-else-is_queue : goal.returns-else-is_queue
returns-else-is_queue g c = own_told c.args.pipe c.args.place.now c.args.had_job c.args.has_job c.args.self.now c.tell_own.new.self (sym c.is_queue.ensures ∙ c.if-is_queue.false) c.tell_own.ensures

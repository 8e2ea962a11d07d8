use Rattle.board.proofs.RunQueuesHold.{queues_but, queues_but_on}
use Rattle.board.proofs.run_queues.RunQueues.enter.Goals as goal

pub returns-then-is_err-clause-others : goal.returns-then-is_err-clause-others
returns-then-is_err-clause-others g c =
    queues_but_on c.args.pipe c.args.self.now c.join_all-joined.new.self c.leave.new.self (queues_but c.args.pipe c.args.self.now c.join_all-joined.new.self c.join_all-joined.ensures.kept) c.leave.ensures

pub returns-else-is_err-clause-others : goal.returns-else-is_err-clause-others
returns-else-is_err-clause-others g c = queues_but c.args.pipe c.args.self.now c.join_all-joined.new.self c.join_all-joined.ensures.kept

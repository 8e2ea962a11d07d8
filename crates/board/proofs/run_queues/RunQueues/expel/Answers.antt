use Rattle.board.proofs.RunQueuesMade.{goes_other}
use Rattle.board.proofs.run_queues.RunQueues.expel.Goals as goal

pub returns-then-not-admits : goal.returns-then-not-admits
returns-then-not-admits g c =
    goes_other c.args.pipe c.args.place.now c.args.worker c.args.self.now c.leave_own.new.self c.if-not-admits.ensures c.leave_own.ensures.queues c.leave_own.ensures.made c.leave_own.ensures.others

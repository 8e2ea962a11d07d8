use Rattle.board.proofs.KeptRunQueues.{says}
use Rattle.board.proofs.RunQueuesMade.{readmitted}
use Rattle.board.proofs.run_queues.RunQueues.readmit.Goals as goal

pub returns-clause-own : goal.returns-clause-own
returns-clause-own g c caller =
    readmitted c.args.pipe c.args.place.now c.may_serve.result c.args.self.now c.expel_workers.new.self c.tell_own.new.self (says c.args.place.now.stage c.may_serve.result c.may_serve.ensures) c.expel_workers.ensures c.tell_own.ensures caller

use Rattle.board.proofs.RunQueuesMade.{goes_same, goes_on}
use Rattle.board.proofs.run_queues.RunQueues.expel_workers.Goals as goal

pub loop-before-init : goal.loop-before-init
loop-before-init g c = goes_same c.args.pipe c.args.place.now c.args.self.now

pub loop-before-preserved : goal.loop-before-preserved
loop-before-preserved g c = goes_on c.args.pipe c.args.place.now c.args.self.now c.loop-before.self c.expel.new.self c.loop-before.invariant c.expel.ensures

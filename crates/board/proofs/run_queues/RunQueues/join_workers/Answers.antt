use Rattle.board.proofs.RunQueuesHold.{queues_on, next_worker}
use Rattle.board.proofs.run_queues.RunQueues.join_workers.Goals as goal

pub returns-in_err-join_worker-clause-kept : goal.returns-in_err-join_worker-clause-kept
returns-in_err-join_worker-clause-kept c = queues_on c.args.self.now c.loop-before.self c.join_worker.new.self c.loop-before.invariant.0 c.join_worker.ensures.kept

pub loop-before-preserved : goal.loop-before-preserved
loop-before-preserved c = (
  queues_on c.args.self.now c.loop-before.self c.join_worker.new.self c.loop-before.invariant.0 c.join_worker.ensures.kept,
  next_worker c.args.mask c.args.pipe c.loop-before.before c.loop-before.self.own c.join_worker.new.self.own c.loop-before.invariant.1 c.join_worker.ensures.kept.1 c.in_ok-join_worker.ensures.joined,
)

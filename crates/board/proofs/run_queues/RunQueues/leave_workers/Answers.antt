use Rattle.std.proofs.Common.{◌∙◌, refl}
use Rattle.board.specs.RunQueues.{queue_for}
use Rattle.board.proofs.RunQueuesHold.{others_on}
use Rattle.board.proofs.RunQueuesMade.{same_but}
use Rattle.board.proofs.run_queues.RunQueues.leave_workers.Goals as goal

pub loop-before-init : goal.loop-before-init
loop-before-init c = (refl, λ n. same_but c.args.pipe (queue_for n c.args.self.now.own))

pub loop-before-preserved : goal.loop-before-preserved
loop-before-preserved c = (
  c.leave_own.ensures.queues ∙ c.loop-before.invariant.0,
  λ n. others_on c.args.pipe (queue_for n c.args.self.now.own) (queue_for n c.loop-before.self.own) (queue_for n c.leave_own.new.self.own) (c.loop-before.invariant.1 n) (c.leave_own.ensures.made n),
)

use Rattle.board.proofs.RunQueuesHold.{keeps_on}
use Rattle.board.proofs.run_queue.RunQueue.admit.Goals as goal

pub returns-then-ready-clause-kept : goal.returns-then-ready-clause-kept
returns-then-ready-clause-kept c = keeps_on c.args.self.now c.join.new.self c.add.new.self c.in_ok-join.ensures.kept c.add.ensures.kept

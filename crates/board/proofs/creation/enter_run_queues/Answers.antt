use Rattle.board.proofs.RunQueuesHold.{queues_but_on}
use Rattle.board.proofs.creation.enter_run_queues.Goals as goal

pub returns-then-is_err-clause-ready : goal.returns-then-is_err-clause-ready
returns-then-is_err-clause-ready g c = queues_but_on c.args.pipe c.args.ready.now c.enter.new.self c.leave.new.self c.in_ok-enter.ensures.others c.leave.ensures

pub returns-then-is_err-clause-passing : goal.returns-then-is_err-clause-passing
returns-then-is_err-clause-passing g c p n = c.join-joined.ensures.kept p

pub returns-else-is_err-clause-passing : goal.returns-else-is_err-clause-passing
returns-else-is_err-clause-passing g c p n = c.join-joined.ensures.kept p

use Rattle.board.proofs.RunQueuesHold.{both_ways_round}
use Rattle.board.proofs.run_queues.next_of.Goals as goal

pub returns-else-own-clause-next : goal.returns-else-own-clause-next
returns-else-own-clause-next g c = both_ways_round c.args.pipes.now c.args.caller _ _ c.next_in-else-own.result c.next_in-else-own.ensures.next

use Rattle.std.proofs.Common.{[]}
use Rattle.board.specs.Entries.{entries_of}
use Rattle.board.proofs.Transfer.{each_right}
use Rattle.board.proofs.PadsAndQueues.{pad_tells, queue_tells}
use Rattle.board.proofs.laws.pads_and_queues_tell.Goals as goal

pub returns : goal.returns
returns g c = record {
  pads = λ h p legal pad. pad_tells (entries_of p h) (each_right [] h p legal) pad;
  queues = λ h q legal queue. queue_tells (entries_of q h) (each_right [] h q legal) queue;
}

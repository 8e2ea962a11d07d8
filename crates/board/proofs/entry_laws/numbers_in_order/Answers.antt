use Rattle.board.specs.Entries.{entries_of}
use Rattle.board.proofs.KeptWork.{numbered_here}
use Rattle.board.proofs.Starting.{front_passed}
use Rattle.board.proofs.entry_laws.numbers_in_order.Goals as goal

pub returns : goal.returns
returns g c = record {
  leave = λ h p legal. (let o = numbered_here h p legal in (o.numbers, o.queued));
  finished = λ h p n legal f. (numbered_here h p legal).done n f;
  front = λ h p legal. front_passed (entries_of p h) (numbered_here h p legal);
  serial = λ h q legal queue. (let o = numbered_here h q legal in (o.serial queue, o.behind queue, o.ahead queue));
}

use Rattle.std.proofs.Common.{[]}
use Rattle.board.specs.Entries.{entries_of}
use Rattle.board.proofs.Transfer.{each_right}
use Rattle.board.proofs.Starting as starting
use Rattle.board.proofs.laws.starts_of_the_backlog.Goals as goal

pub returns : goal.returns
returns g c = record {
  alone = λ h p n legal among. starting.alone (entries_of p h) n (each_right [] h p legal) among;
  once = λ h p n legal. starting.once (entries_of p h) n (each_right [] h p legal);
  before = λ h p n k legal late at. starting.before (entries_of p h) n k (each_right [] h p legal) late at;
}

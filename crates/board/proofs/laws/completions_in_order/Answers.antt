use Rattle.std.proofs.Common.{[]}
use Rattle.board.specs.Entries.{entries_of}
use Rattle.board.proofs.Transfer.{each_right}
use Rattle.board.proofs.Keeping.{orderly}
use Rattle.board.proofs.Handing.{handed_in_order, handed_below}
use Rattle.board.proofs.laws.completions_in_order.Goals as goal

pub returns : goal.returns
returns g c = record {
  in_order = λ h p legal. (orderly (entries_of p h) (each_right [] h p legal)).telling.said;
  front_of = λ h p legal. (orderly (entries_of p h) (each_right [] h p legal)).telling.front_of;
  handed = λ h p legal. handed_in_order (entries_of p h) (each_right [] h p legal);
  waits = λ h p legal. handed_below (entries_of p h) (each_right [] h p legal);
}

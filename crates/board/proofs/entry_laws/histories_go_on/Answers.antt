use Rattle.std.proofs.Common.{[]}
use Rattle.board.proofs.Transfer.{before_last, each_right, right_for}
use Rattle.board.proofs.Kept.{legal_more, only_of}
use Rattle.board.proofs.Staying.{last_right}
use Rattle.board.proofs.entry_laws.histories_go_on.Goals as goal

pub returns : goal.returns
returns g c = record {
  more = legal_more;
  last = λ h e legal. (before_last [] h e legal, last_right [] h e legal);
  alone = λ h e p s r. right_for h p e s r;
  each = λ h p legal. each_right [] h p legal;
  one = only_of;
}

use Rattle.board.proofs.Drained.{hands_nothing, most_handed_out, all_handed_out}
use Rattle.board.proofs.history_laws.only_collects_hand_out.Goals as goal

pub returns : goal.returns
returns g c = record { nothing = hands_nothing; most = most_handed_out; drained = all_handed_out }

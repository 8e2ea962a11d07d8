use Rattle.board.proofs.Drained.{collect_hands_out}
use Rattle.board.proofs.history_laws.collects_hand_out.Goals as goal

pub returns : goal.returns
returns g c = collect_hands_out

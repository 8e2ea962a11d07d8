use Rattle.board.proofs.Staying.{born_served, holds, stays_held}
use Rattle.board.proofs.history_laws.queues_hold.Goals as goal

pub returns : goal.returns
returns g c = record { born = born_served; held = holds; stays = stays_held }

use Rattle.board.proofs.Staying.{born_masked, masks, stays_masked}
use Rattle.board.proofs.history_laws.masks_stay.Goals as goal

pub returns : goal.returns
returns g c = record { born = born_masked; masked = masks; stays = stays_masked }

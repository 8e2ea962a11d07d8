use Rattle.progress_laws.proofs.Spent.{works_few}
use Rattle.progress_laws.proofs.Sums.{board_works_few, work_alone_ends}
use Rattle.progress_laws.proofs.Wanted.{board_is_short}
use Rattle.progress_laws.proofs.laws.work_is_bounded.Goals as goal

pub returns : goal.returns
returns g c = record { each = works_few; all = board_works_few; entries = board_is_short; ends = work_alone_ends }

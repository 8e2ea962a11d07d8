use Rattle.board.specs.Entries.{accepted_in, finished_in}
use Rattle.board.proofs.Lists.{filter_map-none}
use Rattle.board.proofs.Keeping.{birth_stays, front-same}
use Rattle.board.proofs.Kept.{closed-same, shared-same, collected-same, shut-same}
use Rattle.board.proofs.KeptPad.{takers-same}
use Rattle.board.proofs.entry_laws.entries_leave.Goals as goal

pub returns : goal.returns
returns g c = record {
  birth = birth_stays;
  closed = closed-same;
  shared = shared-same;
  collected = collected-same;
  submissions = λ es e a. filter_map-none accepted_in es e a;
  finished = λ es e f. filter_map-none finished_in es e f;
  front = front-same;
  takers = λ es e n b d t. takers-same es e (birth_stays es e b) d t n;
  shut = shut-same;
}

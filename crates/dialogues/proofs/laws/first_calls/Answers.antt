use Rattle.dialogues.proofs.First.{begins-none, begins-turn, begins-says, begins-asks, begins-posts, begins-look, begins-looks, begins-first, begins-later, begins-lines}
use Rattle.dialogues.proofs.laws.first_calls.Goals as goal

pub returns : goal.returns
returns c = record {
  none = begins-none;
  turn = begins-turn;
  says = begins-says;
  asks = begins-asks;
  posts = begins-posts;
  look = begins-look;
  looks = begins-looks;
  first = begins-first;
  later = begins-later;
  lines = begins-lines;
}

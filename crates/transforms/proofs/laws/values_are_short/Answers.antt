use Rattle.transforms.proofs.ValueLengths.{ask-length}
use Rattle.transforms.proofs.laws.values_are_short.Goals as goal

pub returns : goal.returns
returns c = ask-length

use Rattle.dialogues.proofs.First.{further-none, further-then, further-stay}
use Rattle.dialogues.proofs.laws.further_calls.Goals as goal

pub returns : goal.returns
returns c = record { none = further-none; after = further-then; stay = further-stay }

use Rattle.dialogues.proofs.Leading.{turn-goes_on}
use Rattle.dialogues.proofs.laws.turns_follow.Goals as goal

pub returns : goal.returns
returns c = turn-goes_on

use Rattle.dialogues.proofs.References.{references-follow}
use Rattle.dialogues.proofs.laws.references_follow.Goals as goal

pub returns : goal.returns
returns c = references-follow

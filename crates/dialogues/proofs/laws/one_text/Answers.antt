use Rattle.dialogues.proofs.Leading.{one-text}
use Rattle.dialogues.proofs.laws.one_text.Goals as goal

pub returns : goal.returns
returns c = one-text

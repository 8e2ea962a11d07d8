use Rattle.dialogues.proofs.Leading.{leads-nowhere, leads-on, whole-text}
use Rattle.dialogues.proofs.laws.lines_lead.Goals as goal

pub returns : goal.returns
returns c = record { nowhere = leads-nowhere; on = leads-on; end = whole-text }

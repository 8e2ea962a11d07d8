use Rattle.wake_ups.proofs.Words.{words_lead_on}
use Rattle.wake_ups.proofs.laws.words_lead_on.Goals as goal

pub returns : goal.returns
returns c = words_lead_on

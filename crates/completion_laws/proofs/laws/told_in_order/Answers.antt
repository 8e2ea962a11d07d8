use Rattle.completion_laws.proofs.Telling.{tells_first, tells_finished, tells_all, notices_are}
use Rattle.completion_laws.proofs.laws.told_in_order.Goals as goal

pub returns : goal.returns
returns c = record { first = tells_first; finished = tells_finished; notices = notices_are; all = tells_all }

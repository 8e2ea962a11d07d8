use Rattle.script_text.proofs.PendingLemmas.{whole_stays, no_whole}
use Rattle.script_text.proofs.split.whole_lines_stay.Goals as goal

pub returns-clause-stay : goal.returns-clause-stay
returns-clause-stay c = whole_stays

pub returns-clause-none : goal.returns-clause-none
returns-clause-none c = no_whole

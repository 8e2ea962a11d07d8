use Rattle.templates.proofs.Trials.{cbc_built, ctr_not, failed_not}
use Rattle.templates.proofs.laws.faithful_ends.Goals as goal

pub returns-clause-built : goal.returns-clause-built
returns-clause-built c = cbc_built

pub returns-clause-other : goal.returns-clause-other
returns-clause-other c = ctr_not

pub returns-clause-failed : goal.returns-clause-failed
returns-clause-failed c = failed_not

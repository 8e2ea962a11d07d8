use Rattle.recorded_calls.proofs.Lendings.{lent-is-shared}
use Rattle.recorded_calls.proofs.Sharings.{knows-shared-on}
use Rattle.recorded_calls.proofs.shared_calls.shared_is_known.Goals as goal

pub returns-clause-stays : goal.returns-clause-stays
returns-clause-stays c = knows-shared-on c.sharing_laws.ensures

pub returns-clause-lent : goal.returns-clause-lent
returns-clause-lent c = lent-is-shared

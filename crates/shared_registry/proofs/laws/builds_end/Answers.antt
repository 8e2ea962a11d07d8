use Rattle.templates.specs.Table.{table}
use Rattle.shared_registry.proofs.Clients.{found_more, all_each}
use Rattle.shared_registry.proofs.laws.builds_end.Goals as goal

pub returns-clause-found : goal.returns-clause-found
returns-clause-found c = found_more c.registry_laws.ensures

pub returns-clause-nothing_left : goal.returns-clause-nothing_left
returns-clause-nothing_left c = λ h good few own n within. c.all_ended.ensures.one table h good.legal good.made (all_each _ _ few) (all_each _ _ own) n within

use Rattle.alg_names.proofs.Complete.{one_tree}
use Rattle.alg_names.proofs.Building.{name_spelled}
use Rattle.alg_names.proofs.laws.one_name.Goals as goal

pub returns-clause-tree : goal.returns-clause-tree
returns-clause-tree c text t u h k = one_tree h k

pub returns-clause-spelling : goal.returns-clause-spelling
returns-clause-spelling c text t h = name_spelled h

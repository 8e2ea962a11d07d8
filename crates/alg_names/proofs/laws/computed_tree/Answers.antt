use Rattle.alg_names.proofs.Computed.{tree_of-name, name-tree_of}
use Rattle.alg_names.proofs.laws.computed_tree.Goals as goal

pub returns-clause-named : goal.returns-clause-named
returns-clause-named c text t h = tree_of-name text t h

pub returns-clause-computed : goal.returns-clause-computed
returns-clause-computed c text t k = name-tree_of text t k

use Rattle.alg_names.proofs.Computed.{arguments_named}
use Rattle.alg_names.proofs.laws.named_arguments.Goals as goal

pub returns : goal.returns
returns c text t h k d lt = arguments_named h k d lt

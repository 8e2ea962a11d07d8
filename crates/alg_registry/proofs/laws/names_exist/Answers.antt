use Rattle.alg_registry.proofs.Naming.{looks_name, ends_name}
use Rattle.alg_registry.proofs.laws.names_exist.Goals as goal

pub returns : goal.returns
returns c = record { looks = looks_name; ends = ends_name }

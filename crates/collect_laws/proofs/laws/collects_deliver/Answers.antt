use Rattle.collect_laws.proofs.Delivering.{delivers_told, delivers_first, delivers_finished, delivers_all}
use Rattle.collect_laws.proofs.laws.collects_deliver.Goals as goal

pub returns : goal.returns
returns g c = record { told = delivers_told; first = delivers_first; finished = delivers_finished; all = delivers_all }

use Rattle.alg_registry.proofs.AllEnded.{all_ended, all_ended_for}
use Rattle.alg_registry.proofs.laws.all_ended.Goals as goal

pub returns : goal.returns
returns c = record { all = all_ended; one = all_ended_for }

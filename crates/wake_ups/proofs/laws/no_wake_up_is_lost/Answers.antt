use Rattle.wake_ups.proofs.Runs.{all_run, each_job_has_its_look}
use Rattle.wake_ups.proofs.laws.no_wake_up_is_lost.Goals as goal

pub returns : goal.returns
returns c = record { all_run = all_run; looks = each_job_has_its_look }

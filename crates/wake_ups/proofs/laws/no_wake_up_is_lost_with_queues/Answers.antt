use Rattle.wake_ups.proofs.QueuedRuns.{all_run_queued, some_look_comes}
use Rattle.wake_ups.proofs.laws.no_wake_up_is_lost_with_queues.Goals as goal

pub returns : goal.returns
returns c = record { all_run = all_run_queued; look = some_look_comes }

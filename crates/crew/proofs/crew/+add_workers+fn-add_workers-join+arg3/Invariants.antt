use Rattle.std.proofs.Common.{◌+◌, ◌*◌}
use Rattle.crew.proofs.crew.+add_workers+fn-add_workers-join+arg3.Given as goal

abbrev pub decreases-add_workers : goal.decreases-add_workers
decreases-add_workers g l = 2 * l.left

abbrev pub decreases-join+arg3 : goal.decreases-join+arg3
decreases-join+arg3 g l = 2 * l.rest + 1

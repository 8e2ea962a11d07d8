use Rattle.std.proofs.Common.{◌+◌, ◌*◌}
use Rattle.crew_bench.proofs.callers.+all_see_their_own+fn-all_see_their_own-join+arg3.Given as goal

abbrev pub decreases-all_see_their_own : goal.decreases-all_see_their_own
decreases-all_see_their_own g l = 2 * l.left

abbrev pub decreases-join+arg3 : goal.decreases-join+arg3
decreases-join+arg3 g l = 2 * l.rest + 1

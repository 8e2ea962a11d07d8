use Rattle.std.proofs.Common.{◌+◌, ◌*◌}
use Rattle.crew.proofs.peers.+fn-run_peers-join+arg3+run_peers.Given as goal

abbrev pub decreases-run_peers : goal.decreases-run_peers
decreases-run_peers g l = 2 * l.left

abbrev pub decreases-join+arg3 : goal.decreases-join+arg3
decreases-join+arg3 g l = 2 * l.rest + 1

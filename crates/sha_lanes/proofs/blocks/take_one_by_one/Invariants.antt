use Rattle.std.proofs.Common.{◌≡◌}
use Rattle.sha2.specs.Sha256.{hash_after}
use Rattle.sha_lanes.proofs.blocks.take_one_by_one.Given as goal

abbrev pub invariant-loop-i : goal.invariant-loop-i
invariant-loop-i l = l.state ≡ hash_after l.fn.state l.bytes l.i

use Rattle.std.proofs.Common.{◌≡◌, ◌≤◌, length, drop, None}
use Rattle.alg_registry.specs.Held.{refs_among}
use Rattle.alg_registry.proofs.listing.newest_among.Given as goal

-- none of the entries whose ids stand from i on has the driver
abbrev pub invariant-loop-i : goal.invariant-loop-i
invariant-loop-i l = record {
  within : l.i ≤ length l.held;
  none : None ≡ refs_among l.driver l.all (drop l.i l.held);
}

abbrev pub decreases-loop-i : goal.decreases-loop-i
decreases-loop-i l = l.i

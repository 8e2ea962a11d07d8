use Rattle.std.proofs.Common.{◌≡◌, take}
use Rattle.alg_registry.specs.MarkCounts.{referred}
use Rattle.alg_registry.proofs.mark_counts.add_references.Given as goal

abbrev pub invariant-loop-i : goal.invariant-loop-i
invariant-loop-i l = l.older ≡ referred 0 (take l.i l.below) l.fn.older

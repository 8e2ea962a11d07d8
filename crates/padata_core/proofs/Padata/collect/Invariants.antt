use Rattle.std.proofs.Common.{◌≡◌, length}
use Rattle.padata_core.specs.Collection.{StillCollecting}
use Rattle.padata_core.proofs.Padata.collect.Given as goal

abbrev pub invariant-loop-number : goal.invariant-loop-number
invariant-loop-number g l =
    StillCollecting l.initial.self.collected l.initial.self.outcomes l.initial.into l.self.collected l.self.outcomes l.into
    × (l.self.lists ≡ l.initial.self.lists)
    × (l.self.waiting ≡ l.initial.self.waiting)
    × (l.self.spare ≡ l.initial.self.spare)

abbrev pub decreases-loop-number : goal.decreases-loop-number
decreases-loop-number g l = length l.self.outcomes

use Rattle.std.proofs.Common.{◌≡◌, length}
use Rattle.padata_core.specs.Collection.{StillCollecting}
use Rattle.board.proofs.stage.pass_back.Given as goal

abbrev pub invariant-loop-number : goal.invariant-loop-number
invariant-loop-number g l =
    StillCollecting l.initial.pad.collected l.initial.pad.outcomes (record { list = l.initial.server.pending; spare = l.initial.server.passed }) l.pad.collected l.pad.outcomes (record { list = l.server.pending; spare = l.server.passed })
    × (l.pad.lists ≡ l.initial.pad.lists)
    × (l.pad.waiting ≡ l.initial.pad.waiting)
    × (l.pad.spare ≡ l.initial.pad.spare)
    × (l.server.queue ≡ l.initial.server.queue)
    × (l.server.held ≡ l.initial.server.held)
    × (l.server.busy ≡ l.initial.server.busy)
    × (l.server.spare ≡ l.initial.server.spare)

abbrev pub decreases-loop-number : goal.decreases-loop-number
decreases-loop-number g l = length l.pad.outcomes

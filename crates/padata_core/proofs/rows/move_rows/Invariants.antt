use Rattle.std.proofs.Common.{◌-◌}
use Rattle.padata_core.proofs.Moving.{AreMoved}
use Rattle.padata_core.proofs.rows.move_rows.Given as goal

abbrev pub invariant-loop-number : goal.invariant-loop-number
invariant-loop-number g l = AreMoved l.initial.old.items l.old.items l.new.items l.lists l.more l.from l.number l.to l.room l.share

abbrev pub decreases-loop-number : goal.decreases-loop-number
decreases-loop-number g l = l.to - l.number

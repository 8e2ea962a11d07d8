use Rattle.std.proofs.Common.{ℕ, ◌<◌, ◌≤◌}
use Rattle.std.specs.Prelude.{slice_index_or}
use Rattle.padata_core.specs.Rows.{Slot}
use Rattle.padata_core.specs.Pad.{HaveMore}
use Rattle.padata_core.proofs.rows.reserve_rows.Given as goal

abbrev pub invariant-loop-k : goal.invariant-loop-k
invariant-loop-k g l = HaveMore l.initial.rows.items l.rows.items × ((j : ℕ) (d : Slot _) → j < l.k → l.room ≤ (slice_index_or l.rows.items j d).room)

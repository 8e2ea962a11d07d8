use Rattle.std.proofs.Common.{◌≡◌, ℕ, ◌<◌, length}
use Rattle.std.specs.Prelude.{slice_index_or}
use Rattle.padata_core.specs.Rows.{Slot}
use Rattle.padata_core.proofs.Sorted.{empty_held}
use Rattle.padata_core.proofs.rows.empty_rows.Given as goal

abbrev pub invariant-loop : goal.invariant-loop
invariant-loop g l = (length l.rows.items ≡ l.counter) × ((k : ℕ) (d : Slot _) → k < length l.rows.items → slice_index_or l.rows.items k d ≡ empty_held)

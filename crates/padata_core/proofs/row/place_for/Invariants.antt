use Rattle.std.proofs.Common.{ℕ, ◌-◌, ◌<◌, ◌≤◌, length}
use Rattle.std.specs.Prelude.{slice_index_or}
use Rattle.std.specs.VecDeque.{deque_len}
use Rattle.padata_core.proofs.row.place_for.Given as goal

abbrev pub invariant-loop-low : goal.invariant-loop-low
invariant-loop-low g l =
    (l.low ≤ l.high)
    × (l.high ≤ deque_len l.entries)
    × ((j : ℕ) (d : ℕ × _) → j < l.low → (slice_index_or l.entries.items j d).0 ≤ l.number)
    × (l.high < length l.entries.items → (d : ℕ × _) → l.number < (slice_index_or l.entries.items l.high d).0)

abbrev pub decreases-loop-low : goal.decreases-loop-low
decreases-loop-low g l = l.high - l.low

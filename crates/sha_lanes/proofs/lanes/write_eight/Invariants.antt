use Rattle.std.proofs.Common.{◌≡◌, ◌<◌, ℕ, length}
use Rattle.sha2.specs.Sha256.{schedule}
use Rattle.sha_lanes.specs.Lanes.{block_at, in_lane}
use Rattle.sha_lanes.proofs.Schedules.{Keyed}
use Rattle.sha_lanes.specs.Words.{Same}
use Rattle.sha_lanes.proofs.lanes.write_eight.Given as goal

abbrev pub invariant-first : goal.invariant-first
invariant-first l = (length l.rows ≡ 64) × ((n : ℕ) → n < 8 → Same (in_lane l.rows n) (schedule (block_at l.blocks n) 48) l.t)

abbrev pub invariant-next : goal.invariant-next
invariant-next l = (length l.rows ≡ 64) × ((n : ℕ) → n < 8 → Same (in_lane l.rows n) (schedule (block_at l.blocks n) 48) l.t)

abbrev pub invariant-keyed : goal.invariant-keyed
invariant-keyed l = (length l.rows ≡ 64) × ((n : ℕ) → n < 8 → Keyed (in_lane l.rows n) (block_at l.blocks n) l.t)

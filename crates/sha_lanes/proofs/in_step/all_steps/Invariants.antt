use Rattle.std.proofs.Common.{◌*◌, ◌<◌, ℕ}
use Rattle.sha_lanes.specs.Lanes.{block_at, in_lane}
use Rattle.sha_lanes.specs.Words.{IsRoundsAt}
use Rattle.sha_lanes.proofs.in_step.all_steps.Given as goal

abbrev pub invariant-loop-turn : goal.invariant-loop-turn
invariant-loop-turn l = (n : ℕ) → n < 8 → IsRoundsAt (in_lane l.fn.state n) (block_at l.blocks n) (in_lane l.rows n) (in_lane l.v n) (8 * l.turn)

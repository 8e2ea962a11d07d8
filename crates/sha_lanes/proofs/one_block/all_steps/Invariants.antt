use Rattle.std.proofs.Common.{◌*◌}
use Rattle.sha_lanes.specs.Words.{IsRoundsAt}
use Rattle.sha_lanes.proofs.one_block.all_steps.Given as goal

abbrev pub invariant-loop-turn : goal.invariant-loop-turn
invariant-loop-turn l = IsRoundsAt l.fn.state l.block l.words l.v (8 * l.turn)

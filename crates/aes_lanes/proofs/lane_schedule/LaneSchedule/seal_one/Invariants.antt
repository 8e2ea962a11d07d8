use Rattle.std.proofs.Common.{◌≡◌, ◌-◌}
use Rattle.std_defs.specs.Aes.{after_rounds, key_schedule}
use Rattle.aes_lanes.specs.Key.{lane_key}
use Rattle.aes_lanes.specs.SealingTower.{ordered}
use Rattle.aes_lanes.proofs.lane_schedule.LaneSchedule.seal_one.Given as goal

abbrev pub invariant-loop-round : goal.invariant-loop-round
invariant-loop-round l = ordered (l.round - 1) l.state ≡ after_rounds (key_schedule (lane_key l.self)) l.fn.b (l.round - 1)

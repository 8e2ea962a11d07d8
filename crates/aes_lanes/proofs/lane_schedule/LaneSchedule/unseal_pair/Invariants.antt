use Rattle.std.proofs.Common.{◌≡◌, ◌-◌, ◌≤◌}
use Rattle.std_defs.specs.Aes.{unseal}
use Rattle.aes_lanes.specs.Pairs.{each_half}
use Rattle.aes_lanes.specs.RoundKeys.{schedule_of}
use Rattle.aes_lanes.specs.Key.{lane_key}
use Rattle.aes_lanes.proofs.Sides.{unrounds_of}
use Rattle.aes_lanes.proofs.lane_schedule.LaneSchedule.unseal_pair.Given as goal

abbrev pub invariant-loop-round : goal.invariant-loop-round
invariant-loop-round l = (1 ≤ l.round) × (unrounds_of l.self.rounds (schedule_of l.self.keys) (l.round - 1) l.state ≡ each_half (unseal (lane_key l.self)) l.fn.x)

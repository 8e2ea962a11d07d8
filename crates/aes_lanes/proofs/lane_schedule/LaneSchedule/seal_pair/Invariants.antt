use Rattle.std.proofs.Common.{◌≡◌, ◌-◌}
use Rattle.std.specs.Prelude.{map}
use Rattle.aes_lanes.specs.RoundKeys.{schedule_of}
use Rattle.aes_lanes.specs.SealingTower.{tower_byte}
use Rattle.aes_lanes.proofs.PairSealed.{rounds_of}
use Rattle.aes_lanes.proofs.lane_schedule.LaneSchedule.seal_pair.Given as goal

abbrev pub invariant-loop-round : goal.invariant-loop-round
invariant-loop-round l = map tower_byte l.state ≡ rounds_of l.self.rounds (schedule_of l.self.keys) (l.round - 1) l.fn.x

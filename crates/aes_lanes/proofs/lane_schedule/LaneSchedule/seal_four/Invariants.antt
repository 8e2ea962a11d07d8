use Rattle.std.proofs.Common.{◌≡◌, ◌-◌}
use Rattle.aes_lanes.specs.Pairs.{blocks_of}
use Rattle.aes_lanes.specs.Rows.{tower_blocks}
use Rattle.aes_lanes.specs.RoundKeys.{schedule_of}
use Rattle.aes_lanes.proofs.RowsSealed.{rounded}
use Rattle.aes_lanes.proofs.lane_schedule.LaneSchedule.seal_four.Given as goal

abbrev pub invariant-loop-round : goal.invariant-loop-round
invariant-loop-round l = record {
  done : tower_blocks l.state ≡ rounded l.self.rounds (schedule_of l.self.keys) (l.round - 1) (blocks_of l.fn.x);
}

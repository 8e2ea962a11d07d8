use Rattle.std.proofs.Common.{◌≡◌, ◌-◌, ◌≤◌, map}
use Rattle.std_defs.specs.Aes.{unseal}
use Rattle.aes_lanes.specs.Pairs.{blocks_of}
use Rattle.aes_lanes.specs.Rows.{state_blocks}
use Rattle.aes_lanes.specs.RoundKeys.{schedule_of}
use Rattle.aes_lanes.specs.Key.{lane_key}
use Rattle.aes_lanes.proofs.RowsUnsealed.{unrounded}
use Rattle.aes_lanes.proofs.lane_schedule.LaneSchedule.unseal_four.Given as goal

abbrev pub invariant-loop-round : goal.invariant-loop-round
invariant-loop-round l = record {
  above : 1 ≤ l.round;
  done : unrounded l.self.rounds (schedule_of l.self.keys) (l.round - 1) (state_blocks l.state) ≡ map (unseal (lane_key l.self)) (blocks_of l.fn.x);
}

-- the key of a schedule in vectors
use Rattle.std.specs.Prelude.{ℕ, List}
use Rattle.aes_block.specs.Schedule.{key_of}
use Rattle.aes_lanes.specs.RoundKeys.{schedule_of}
use Rattle.aes_lanes.specs.declared.lane_schedule.LaneSchedule.{LaneSchedule}

-- the key that was given
abbrev pub lane_key : LaneSchedule → List ℕ
lane_key a = key_of a.rounds (schedule_of a.keys)

-- the key of a schedule in vectors
use Rattle.std.specs.Prelude.{ℕ, List}
use Rattle.aes_block.specs.Schedule.{key_of}
use Rattle.aes_ni.specs.RoundKeys.{schedule_of}
use Rattle.aes_ni.specs.declared.key_schedule.KeySchedule.{KeySchedule}

-- the key that was given
abbrev pub ni_key : KeySchedule → List ℕ
ni_key a = key_of a.rounds (schedule_of a.keys)

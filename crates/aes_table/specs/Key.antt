-- the key of a schedule in words
use Rattle.std.specs.Prelude.{ℕ, List, map}
use Rattle.aes_block.specs.Schedule.{key_of}
use Rattle.aes_table.specs.Words.{bytes_of}
use Rattle.aes_table.specs.declared.schedule.TableSchedule.{TableSchedule}

-- the key that was given
abbrev pub table_key : TableSchedule → List ℕ
table_key a = key_of a.rounds (map bytes_of a.words)

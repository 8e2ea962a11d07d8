use Rattle.std.proofs.Common.{◌≡◌, ◌-◌, ◌≤◌}
use Rattle.std_defs.specs.Aes.{before_rounds, key_schedule, unseal, inverse_sub_bytes, inverse_shift_rows}
use Rattle.aes_table.specs.Key.{table_key}
use Rattle.aes_table.specs.States.{state_of}
use Rattle.aes_table.proofs.schedule.TableSchedule.unseal.Given as goal

abbrev pub invariant-loop-round : goal.invariant-loop-round
invariant-loop-round l =
    (1 ≤ l.round)
    × (before_rounds (key_schedule (table_key l.self)) (inverse_sub_bytes (inverse_shift_rows (state_of l.state))) (l.round - 1) ≡ unseal (table_key l.self) l.fn.b)

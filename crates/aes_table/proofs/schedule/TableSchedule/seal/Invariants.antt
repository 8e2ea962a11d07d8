use Rattle.std.proofs.Common.{◌≡◌, ◌*◌, ◌-◌}
use Rattle.std_defs.specs.Aes.{after_rounds, key_schedule}
use Rattle.aes_table.specs.Key.{table_key}
use Rattle.aes_table.specs.States.{state_of}
use Rattle.aes_table.proofs.schedule.TableSchedule.seal.Given as goal

abbrev pub invariant-loop-pair : goal.invariant-loop-pair
invariant-loop-pair l = state_of l.state ≡ after_rounds (key_schedule (table_key l.self)) l.fn.b (2 * l.pair - 1)

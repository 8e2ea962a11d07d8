use Rattle.std.proofs.Common.{◌≡◌, ◌++◌, map, take, drop}
use Rattle.std_defs.specs.Aes.{add_round_key, inverse_sub_bytes, inverse_shift_rows}
use Rattle.aes_ni.specs.RoundKeys.{schedule_of}
use Rattle.aes_ni.proofs.key_schedule.KeySchedule.unseal_last_of_all.Given as goal

abbrev pub invariant-loop-state : goal.invariant-loop-state
invariant-loop-state l =
    l.states ≡ map (λ s. add_round_key (schedule_of l.self.keys) 0 (inverse_sub_bytes (inverse_shift_rows s))) (take l.state-index l.fn.states) ++ drop l.state-index l.fn.states

use Rattle.std.proofs.Common.{◌≡◌, ◌++◌, map, take, drop}
use Rattle.std_defs.specs.Aes.{add_round_key, shift_rows, sub_bytes}
use Rattle.aes_ni.specs.RoundKeys.{schedule_of}
use Rattle.aes_ni.proofs.key_schedule.KeySchedule.seal_last_of_all.Given as goal

abbrev pub invariant-loop-state : goal.invariant-loop-state
invariant-loop-state l =
    l.states ≡ map (λ s. add_round_key (schedule_of l.self.keys) l.fn.round (shift_rows (sub_bytes s))) (take l.state-index l.fn.states) ++ drop l.state-index l.fn.states

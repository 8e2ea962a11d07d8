use Rattle.std.proofs.Common.{◌≡◌, ◌++◌, map, take, drop}
use Rattle.std_defs.specs.Aes.{add_round_key}
use Rattle.aes_ni.specs.RoundKeys.{schedule_of}
use Rattle.aes_ni.proofs.key_schedule.KeySchedule.add_key_to_all.Given as goal

abbrev pub invariant-loop-state : goal.invariant-loop-state
invariant-loop-state l =
    l.states ≡ map (add_round_key (schedule_of l.self.keys) l.fn.round) (take l.state-index l.fn.states) ++ drop l.state-index l.fn.states

use Rattle.std.proofs.Common.{◌≡◌, ◌-◌, ◌≤◌}
use Rattle.std_defs.specs.Aes.{unseal}
use Rattle.aes_ni.specs.Key.{ni_key}
use Rattle.aes_ni.specs.RoundKeys.{schedule_of}
use Rattle.aes_ni.proofs.OneBlock.{unrounded_one}
use Rattle.aes_ni.proofs.key_schedule.KeySchedule.unseal_one.Given as goal

abbrev pub invariant-loop-round : goal.invariant-loop-round
invariant-loop-round l = (1 ≤ l.round) × (unrounded_one l.self.rounds (schedule_of l.self.keys) (l.round - 1) l.state ≡ unseal (ni_key l.self) l.fn.block)

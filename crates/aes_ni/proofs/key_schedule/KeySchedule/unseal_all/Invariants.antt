use Rattle.std.proofs.Common.{◌≡◌, ◌-◌, ◌≤◌, map}
use Rattle.std_defs.specs.Aes.{unseal}
use Rattle.aes_ni.specs.Key.{ni_key}
use Rattle.aes_ni.specs.RoundKeys.{schedule_of}
use Rattle.aes_ni.proofs.EightBlocks.{unrounded}
use Rattle.aes_ni.proofs.key_schedule.KeySchedule.unseal_all.Given as goal

abbrev pub invariant-loop-round : goal.invariant-loop-round
invariant-loop-round l = (1 ≤ l.round) × (unrounded l.self.rounds (schedule_of l.self.keys) (l.round - 1) l.states ≡ map (unseal (ni_key l.self)) l.fn.blocks)

use Rattle.std.proofs.Common.{◌≡◌, ◌-◌}
use Rattle.aes_ni.specs.RoundKeys.{schedule_of}
use Rattle.aes_ni.proofs.EightBlocks.{rounded}
use Rattle.aes_ni.proofs.key_schedule.KeySchedule.seal_all.Given as goal

abbrev pub invariant-loop-round : goal.invariant-loop-round
invariant-loop-round l = l.states ≡ rounded l.self.rounds (schedule_of l.self.keys) (l.round - 1) l.fn.blocks

use Rattle.std.proofs.Common.{◌≡◌, ◌-◌}
use Rattle.std_defs.specs.Aes.{after_rounds, key_schedule}
use Rattle.aes_ni.specs.Key.{ni_key}
use Rattle.aes_ni.proofs.key_schedule.KeySchedule.seal_one.Given as goal

abbrev pub invariant-loop-round : goal.invariant-loop-round
invariant-loop-round l = l.state ≡ after_rounds (key_schedule (ni_key l.self)) l.fn.block (l.round - 1)

use Rattle.std.specs.Prelude.{◌-◌}
use Rattle.std.proofs.Common.{arith}
use Rattle.aes_block.proofs.Rounds.{at_least_ten}
use Rattle.aes_ni.specs.RoundKeys.{schedule_of}
use Rattle.aes_ni.proofs.OneBlock.{unsealed_begin, unsealed_more, unsealed_end}
use Rattle.aes_ni.proofs.key_schedule.KeySchedule.unseal_one.Goals as goal

pub loop-round-init : goal.loop-round-init
loop-round-init c =
    let s = c.args.self.now in (
      omega (arith, at_least_ten s.rounds (schedule_of s.keys) s.scheduled),
      unsealed_begin s.rounds (schedule_of s.keys) c.args.block.now _ s.scheduled c.add_key.ensures,
    )

pub loop-round-preserved : goal.loop-round-preserved
loop-round-preserved c =
    let s = c.args.self.now in (
      omega arith,
      unsealed_more s.rounds (schedule_of s.keys) (c.loop-round.round - 1) (c.loop-round.round - 1 - 1) c.args.block.now c.loop-round.state _ s.scheduled (omega arith) (omega arith)
          c.loop-round.invariant.1 c.unseal_round.ensures,
    )

pub returns : goal.returns
returns c =
    let s = c.args.self.now in
    unsealed_end s.rounds (schedule_of s.keys) (c.loop-round.round - 1) c.args.block.now c.loop-round.state _ s.scheduled (omega arith)
    c.loop-round.invariant.1 c.unseal_last.ensures

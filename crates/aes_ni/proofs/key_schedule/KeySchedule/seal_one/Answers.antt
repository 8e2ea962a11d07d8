use Rattle.std.proofs.Common.{◌∙◌, arith}
use Rattle.aes_block.proofs.KeyBlocks.{first_key}
use Rattle.aes_block.proofs.Rounds.{at_least_ten, at_most_fourteen}
use Rattle.aes_ni.specs.RoundKeys.{schedule_of}
use Rattle.aes_ni.proofs.OneBlock.{sealed_more, sealed_end}
use Rattle.aes_ni.proofs.key_schedule.KeySchedule.seal_one.Goals as goal

pub seal_last-requires : goal.seal_last-requires
seal_last-requires c = let s = c.args.self.now in omega (arith, at_most_fourteen s.rounds (schedule_of s.keys) s.scheduled)

pub loop-round-init : goal.loop-round-init
loop-round-init c = let s = c.args.self.now in c.add_key.ensures ∙ first_key s.rounds (schedule_of s.keys) c.args.block.now s.scheduled

pub loop-round-preserved : goal.loop-round-preserved
loop-round-preserved c =
    let s = c.args.self.now in
    sealed_more s.rounds (schedule_of s.keys) c.loop-round.round c.args.block.now c.loop-round.state _ s.scheduled (omega arith) (omega arith)
    c.loop-round.invariant c.seal_round.ensures

pub returns : goal.returns
returns c =
    let s = c.args.self.now in
    sealed_end s.rounds (schedule_of s.keys) c.loop-round.round c.args.block.now c.loop-round.state _ s.scheduled
    (omega (arith, at_least_ten s.rounds (schedule_of s.keys) s.scheduled)) c.loop-round.invariant c.seal_last.ensures

use Rattle.std.proofs.Common.{arith}
use Rattle.aes_block.proofs.Rounds.{at_least_ten}
use Rattle.aes_ni.specs.RoundKeys.{schedule_of}
use Rattle.aes_ni.proofs.EightBlocks.{all_begun, all_more, all_sealed}
use Rattle.aes_ni.proofs.key_schedule.KeySchedule.seal_all.Goals as goal

pub loop-round-init : goal.loop-round-init
loop-round-init c = let s = c.args.self.now in all_begun s.rounds (schedule_of s.keys) c.args.blocks.now _ s.scheduled c.add_key_to_all.ensures

pub loop-round-preserved : goal.loop-round-preserved
loop-round-preserved c =
    let s = c.args.self.now in
    all_more s.rounds (schedule_of s.keys) c.loop-round.round c.args.blocks.now c.loop-round.states _ s.scheduled (omega arith) (omega arith)
    c.loop-round.invariant c.seal_round_of_all.ensures

pub returns : goal.returns
returns c =
    let s = c.args.self.now in
    all_sealed s.rounds (schedule_of s.keys) c.loop-round.round c.args.blocks.now c.loop-round.states _ s.scheduled
    (omega (arith, at_least_ten s.rounds (schedule_of s.keys) s.scheduled)) c.loop-round.invariant c.seal_last_of_all.ensures

use Rattle.std.specs.Prelude.{◌≡◌}
use Rattle.std.proofs.Common.{arith}
use Rattle.std_defs.specs.Aes.{sbox}
use Rattle.aes_block.proofs.Rounds.{at_least_ten}
use Rattle.aes_lanes.specs.Pairs.{blocks_of}
use Rattle.aes_lanes.specs.Rows.{blocks_in, tower_blocks}
use Rattle.aes_lanes.specs.RoundKeys.{schedule_of}
use Rattle.aes_lanes.proofs.RowsSealed.{all_begun, all_more, all_sealed}
use Rattle.aes_lanes.proofs.lane_schedule.LaneSchedule.seal_four.Goals as goal

pub loop-round-init : goal.loop-round-init
loop-round-init c =
    let s = c.args.self.now in
    record {
      done = all_begun s.rounds (schedule_of s.keys) c.args.x _ _ _ _ (blocks_in c.rows_of-state.result) s.scheduled (omega arith)
          c.sealing_entered.ensures c.sealing_entered-2.ensures c.sealing_entered-3.ensures c.sealing_entered-4.ensures c.rows_of-state.ensures;
    }

pub loop-round-preserved : goal.loop-round-preserved
loop-round-preserved c =
    let s = c.args.self.now in
    record {
      done = all_more s.rounds (schedule_of s.keys) c.loop-round.round (blocks_of c.args.x) (tower_blocks c.loop-round.state) _ s.scheduled
          (omega arith) (omega arith) c.loop-round.invariant.done c.sealed_rows-state.ensures;
    }

pub sealed_rows-state-requires : goal.sealed_rows-state-requires
sealed_rows-state-requires c = omega arith

pub returns : goal.returns
returns c =
    let s = c.args.self.now in
    let at : c.loop-round.round ≡ s.rounds = omega (arith, at_least_ten s.rounds (schedule_of s.keys) s.scheduled) in
    all_sealed s.rounds (schedule_of s.keys) c.loop-round.round (blocks_of c.args.x) c.pairs_of-y.result _ _ _ _ (tower_blocks c.loop-round.state) (blocks_in c.shifted_rows.result)
    s.scheduled at (omega arith) c.sealing_left.ensures c.sealing_left-2.ensures c.sealing_left-3.ensures c.sealing_left-4.ensures c.pairs_of-y.ensures (c.shifted_rows.ensures sbox) c.loop-round.invariant.done

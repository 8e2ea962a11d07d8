use Rattle.std.specs.Prelude.{◌-◌}
use Rattle.std.proofs.Common.{arith}
use Rattle.aes_lanes.specs.Pairs.{blocks_of}
use Rattle.aes_lanes.specs.Rows.{blocks_in, state_blocks}
use Rattle.aes_lanes.specs.RoundKeys.{schedule_of}
use Rattle.aes_lanes.proofs.RowsUnsealed.{all_entered, round_more, all_left}
use Rattle.aes_lanes.proofs.lane_schedule.LaneSchedule.unseal_four.Goals as goal

pub loop-round-init : goal.loop-round-init
loop-round-init c =
    let s = c.args.self.now in
    record {
      above = omega (arith, s.scheduled.0);
      done = all_entered s.rounds (schedule_of s.keys) c.args.x _ _ _ _ (blocks_in c.rows_of-state.result) s.scheduled (omega arith)
          c.entered.ensures c.entered-2.ensures c.entered-3.ensures c.entered-4.ensures c.rows_of-state.ensures;
    }

pub loop-round-preserved : goal.loop-round-preserved
loop-round-preserved c =
    let s = c.args.self.now in
    record {
      above = omega arith;
      done = round_more s.rounds (schedule_of s.keys) (c.loop-round.round - 1) (c.loop-round.round - 1 - 1) (blocks_of c.args.x) (state_blocks c.loop-round.state) _ s.scheduled
          (omega arith) (omega arith) c.loop-round.invariant.done c.unsealed_rows-state.ensures;
    }

pub unsealed_rows-state-requires : goal.unsealed_rows-state-requires
unsealed_rows-state-requires c = omega arith

pub returns : goal.returns
returns c =
    let s = c.args.self.now in
    all_left s.rounds (schedule_of s.keys) (c.loop-round.round - 1) (blocks_of c.args.x) c.pairs_of-y.result _ _ _ _ (state_blocks c.loop-round.state) (blocks_in c.shifted_back.result)
    s.scheduled (omega arith) (omega arith) c.left.ensures c.left-2.ensures c.left-3.ensures c.left-4.ensures c.pairs_of-y.ensures c.shifted_back.ensures c.loop-round.invariant.done

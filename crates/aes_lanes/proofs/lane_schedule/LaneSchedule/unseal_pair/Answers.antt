use Rattle.std.specs.Prelude.{[], ◌-◌}
use Rattle.std.proofs.Common.{arith}
use Rattle.aes_lanes.specs.RoundKeys.{schedule_of}
use Rattle.aes_block.proofs.Rounds.{at_most_fourteen}
use Rattle.aes_lanes.proofs.KeyVectors.{vector_at}
use Rattle.aes_lanes.proofs.Sides.{unseal_start, unseal_more, unseal_end}
use Rattle.aes_lanes.proofs.lane_schedule.LaneSchedule.unseal_pair.Goals as goal

pub loop-round-init : goal.loop-round-init
loop-round-init c =
    let s = c.args.self.now in
    (omega (arith, s.scheduled.0), unseal_start s.rounds (schedule_of s.keys) c.args.x _ s.scheduled c.begun_back-state.ensures)

pub loop-round-preserved : goal.loop-round-preserved
loop-round-preserved c =
    let s = c.args.self.now in
    let h = s.scheduled in (
      omega arith,
      unseal_more s.rounds (schedule_of s.keys) (c.loop-round.round - 1) (c.loop-round.round - 1 - 1) c.args.x _ _ _ h (omega arith) (omega arith) (omega arith)
          (vector_at s.keys (c.loop-round.round - 1) (record { twice = [] }) (omega arith) (omega (arith, at_most_fourteen s.rounds (schedule_of s.keys) h)) s.twice) c.loop-round.invariant.1 c.unsealed_round-state.ensures,
    )

pub returns : goal.returns
returns c =
    let s = c.args.self.now in
    let h = s.scheduled in
    unseal_end s.rounds (schedule_of s.keys) (c.loop-round.round - 1) c.args.x _ _ _ h (omega arith) (omega arith)
    (vector_at s.keys 0 (record { twice = [] }) (omega arith) (omega arith) s.twice) c.loop-round.invariant.1 c.sum.ensures

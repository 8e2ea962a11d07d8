use Rattle.std.specs.Prelude.{[]}
use Rattle.std.proofs.Common.{arith}
use Rattle.aes_lanes.specs.RoundKeys.{schedule_of}
use Rattle.aes_block.proofs.Rounds.{at_most_fourteen}
use Rattle.aes_lanes.proofs.KeyVectors.{vector_at}
use Rattle.aes_lanes.proofs.Sides.{begun_back_is}
use Rattle.aes_lanes.proofs.lane_schedule.LaneSchedule.begun_back.Goals as goal

pub returns : goal.returns
returns c =
    let s = c.args.self.now in
    let h = s.scheduled in
    begun_back_is s.rounds (schedule_of s.keys) c.args.x _ _ _ _ c.fits-x.0 (vector_at s.keys s.rounds (record { twice = [] }) (omega arith) (omega (arith, at_most_fourteen s.rounds (schedule_of s.keys) h)) s.twice)
    c.sum.ensures c.shifted_back.ensures c.inverse_substituted.ensures

use Rattle.std.specs.Prelude.{[]}
use Rattle.std.proofs.Common.{arith, ◌∙◌}
use Rattle.aes_lanes.specs.RoundKeys.{schedule_of}
use Rattle.aes_lanes.proofs.KeyVectors.{vector_at}
use Rattle.aes_lanes.proofs.Sides.{key_added}
use Rattle.aes_lanes.proofs.lane_schedule.LaneSchedule.sealing_entered.Goals as goal

pub returns : goal.returns
returns c =
    let s = c.args.self.now in
    c.in_sealing_tower.ensures ∙ c.sum.ensures
    ∙ key_added (schedule_of s.keys) 0 c.args.x _ c.fits-x.0
    (vector_at s.keys 0 (record { twice = [] }) (omega arith) (omega arith) s.twice)

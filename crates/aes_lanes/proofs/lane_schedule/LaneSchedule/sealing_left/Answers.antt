use Rattle.std.specs.Prelude.{[]}
use Rattle.std.proofs.Common.{arith, ap, ◌∙◌}
use Rattle.std_defs.specs.Aes.{add_round_key}
use Rattle.aes_lanes.specs.Pairs.{each_half}
use Rattle.aes_lanes.specs.RoundKeys.{schedule_of}
use Rattle.aes_block.proofs.Rounds.{at_most_fourteen}
use Rattle.aes_lanes.proofs.KeyVectors.{vector_at}
use Rattle.aes_lanes.proofs.Sides.{key_added}
use Rattle.aes_lanes.proofs.lane_schedule.LaneSchedule.sealing_left.Goals as goal

pub returns : goal.returns
returns c =
    let s = c.args.self.now in
    c.sum.ensures ∙ key_added (schedule_of s.keys) s.rounds c.made_last.result _ (omega arith) (vector_at s.keys s.rounds (record { twice = [] }) (omega arith) (omega (arith, at_most_fourteen s.rounds (schedule_of s.keys) s.scheduled)) s.twice)
    ∙ ap (each_half (add_round_key (schedule_of s.keys) s.rounds)) c.made_last.ensures

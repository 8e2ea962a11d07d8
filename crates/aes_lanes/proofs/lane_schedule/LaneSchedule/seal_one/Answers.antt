use Rattle.std.specs.Prelude.{◌<◌, [], map, refl}
use Rattle.std.proofs.Common.{arith, ap, sym, ◌∙◌}
use Rattle.std.proofs.lemmas.List.{get_or-map}
use Rattle.aes_lanes.specs.RoundKeys.{schedule_of}
use Rattle.aes_lanes.specs.RowKeys.{less_constant}
use Rattle.aes_lanes.specs.SealingTower.{ordered}
use Rattle.aes_block.proofs.Rounds.{at_least_ten, at_most_fourteen}
use Rattle.aes_lanes.proofs.KeyVectors.{vector_at}
use Rattle.aes_lanes.proofs.OneSealed.{front_key, one_begun, one_more, one_end}
use Rattle.aes_lanes.proofs.lane_schedule.LaneSchedule.seal_one.Goals as goal

pub loop-round-init : goal.loop-round-init
loop-round-init c =
    let s = c.args.self.now in
    one_begun s.rounds (schedule_of s.keys) c.args.b _ _ _ s.scheduled c.fits-b.0
    (front_key (schedule_of s.keys) 0 _ _ c.front_of.ensures (vector_at s.keys 0 (record { twice = [] }) (omega arith) (omega arith) s.twice)) c.sum.ensures c.one_in_tower-state.ensures

pub loop-round-preserved : goal.loop-round-preserved
loop-round-preserved c =
    let s = c.args.self.now in
    let i = c.loop-round.round in
    let within : i < 15 = omega (arith, at_most_fourteen s.rounds (schedule_of s.keys) s.scheduled) in
    one_more s.rounds (schedule_of s.keys) i c.args.b c.loop-round.state _ _ s.scheduled (omega arith) (omega arith) (omega arith)
    (ap (ordered i) (sym (get_or-map (λ k. k.elements) s.tower_keys i (record { elements = [] }) [] (omega arith))) ∙ s.in_tower i (omega arith) ∙ ap (map less_constant) (front_key (schedule_of s.keys) i _ _ refl (s.twice i within)))
    c.loop-round.invariant c.one_round-state.ensures

pub returns : goal.returns
returns c =
    let s = c.args.self.now in
    one_end s.rounds (schedule_of s.keys) c.loop-round.round c.args.b c.loop-round.state _ _ _ _ s.scheduled (omega (arith, at_least_ten s.rounds (schedule_of s.keys) s.scheduled))
    (omega (arith, at_least_ten s.rounds (schedule_of s.keys) s.scheduled)) (omega arith)
    (front_key (schedule_of s.keys) s.rounds _ _ c.front_of-last.ensures (vector_at s.keys s.rounds (record { twice = [] }) (omega arith) (omega (arith, at_most_fourteen s.rounds (schedule_of s.keys) s.scheduled)) s.twice))
    c.loop-round.invariant c.one_made_last.ensures c.shifted.ensures c.sum-2.ensures

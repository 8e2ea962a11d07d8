use Rattle.std.specs.Prelude.{◌<◌, [], map}
use Rattle.std.proofs.Common.{arith, ap, sym, ◌∙◌}
use Rattle.std.proofs.lemmas.List.{get_or-map}
use Rattle.aes_block.proofs.Rounds.{at_least_ten, at_most_fourteen}
use Rattle.aes_lanes.specs.RoundKeys.{schedule_of}
use Rattle.aes_lanes.specs.RowKeys.{less_constant}
use Rattle.aes_lanes.specs.SealingTower.{tower_byte}
use Rattle.aes_lanes.proofs.PairSealed.{pair_begun, pair_more, pair_end}
use Rattle.aes_lanes.proofs.lane_schedule.LaneSchedule.seal_pair.Goals as goal

pub loop-round-init : goal.loop-round-init
loop-round-init c =
    let s = c.args.self.now in
    pair_begun s.rounds (schedule_of s.keys) c.args.x _ s.scheduled c.sealing_entered-state.ensures

pub loop-round-preserved : goal.loop-round-preserved
loop-round-preserved c =
    let s = c.args.self.now in
    let i = c.loop-round.round in
    let within : i < 15 = omega (arith, at_most_fourteen s.rounds (schedule_of s.keys) s.scheduled) in
    pair_more s.rounds (schedule_of s.keys) i c.args.x c.loop-round.state _ _ _ s.scheduled (omega arith) (omega arith) (omega arith)
    (ap (map tower_byte) (sym (get_or-map (λ k. k.elements) s.pair_keys i (record { elements = [] }) [] (omega arith))) ∙ s.in_pairs i (omega arith) ∙ ap (map less_constant) (s.twice i within))
    c.loop-round.invariant c.shifted.ensures c.pair_mixed-state.ensures

pub returns : goal.returns
returns c =
    let s = c.args.self.now in
    pair_end s.rounds (schedule_of s.keys) c.loop-round.round c.args.x c.loop-round.state _ _ s.scheduled (omega (arith, at_least_ten s.rounds (schedule_of s.keys) s.scheduled)) (omega arith)
    c.loop-round.invariant c.shifted-2.ensures c.sealing_left.ensures

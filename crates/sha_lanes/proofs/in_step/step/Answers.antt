use Rattle.std.proofs.Common.{◌≡◌, ◌∙◌, arith, refl, slice_index}
use Rattle.std.proofs.lemmas.Simd.{get_or-replicate}
use Rattle.sha2.specs.Sha256.{add32, round_constants, schedule}
use Rattle.sha_lanes.specs.Lanes.{in_lane}
use Rattle.sha_lanes.proofs.Schedules.{lane_set}
use Rattle.sha_lanes.proofs.Steps.{next}
use Rattle.sha_lanes.proofs.in_step.step.Goals as goal

pub returns : goal.returns
returns c = λ n h b lt word held.
    let k = slice_index round_constants c.args.t in
    let w = slice_index (schedule b 48) c.args.t in
    let keyed : slice_index c.sum.result n ≡ add32 w k = c.sum.ensures n lt ∙ rw (word, get_or-replicate 8 n k 0 lt) refl in (
      lane_set c.args.rows.now c.args.words (schedule b 48) n c.args.t (omega (arith, c.told-rows)) held.0 word,
      next h (schedule b 48) (in_lane c.args.v n) c.args.t held.1 (c.round.ensures n k w lt keyed),
    )

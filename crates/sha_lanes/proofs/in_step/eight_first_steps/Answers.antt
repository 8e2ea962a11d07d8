use Rattle.std.proofs.Common.{◌∙◌, ap, arith, slice_index}
use Rattle.sha2.specs.Sha256.{schedule}
use Rattle.sha_lanes.specs.Lanes.{block_at}
use Rattle.sha_lanes.proofs.Steps.{at}
use Rattle.sha_lanes.proofs.Matrix.{word_in}
use Rattle.sha_lanes.proofs.in_step.eight_first_steps.Goals as goal

pub returns : goal.returns
returns c = λ n h lt held.
    let p = c.args.blocks.now in
    let b = block_at p n in
    let t = c.args.t in
    let e = c.eight_rows-words.ensures in
    let s1 = c.step-v.ensures n h b lt (word_in p n t 0 lt (omega arith) (omega arith) e ∙ ap (slice_index (schedule b 48)) (omega arith)) held in
    let s2 = c.step-v-2.ensures n h b lt (word_in p n t 1 lt (omega arith) (omega arith) e) s1 in
    let s3 = c.step-v-3.ensures n h b lt (word_in p n t 2 lt (omega arith) (omega arith) e) (at h b _ (omega arith) s2) in
    let s4 = c.step-v-4.ensures n h b lt (word_in p n t 3 lt (omega arith) (omega arith) e) (at h b _ (omega arith) s3) in
    let s5 = c.step-v-5.ensures n h b lt (word_in p n t 4 lt (omega arith) (omega arith) e) (at h b _ (omega arith) s4) in
    let s6 = c.step-v-6.ensures n h b lt (word_in p n t 5 lt (omega arith) (omega arith) e) (at h b _ (omega arith) s5) in
    let s7 = c.step-v-7.ensures n h b lt (word_in p n t 6 lt (omega arith) (omega arith) e) (at h b _ (omega arith) s6) in
    at h b _ (omega arith) (c.step.ensures n h b lt (word_in p n t 7 lt (omega arith) (omega arith) e) (at h b _ (omega arith) s7))

use Rattle.std.proofs.Common.{arith}
use Rattle.sha_lanes.proofs.Steps.{at}
use Rattle.sha_lanes.proofs.in_step.eight_next_steps.Goals as goal

pub returns : goal.returns
returns c = λ n h b lt held.
    let s1 = c.next_step-v.ensures n h b lt held in
    let s2 = c.next_step-v-2.ensures n h b lt s1 in
    let s3 = c.next_step-v-3.ensures n h b lt (at h b _ (omega arith) s2) in
    let s4 = c.next_step-v-4.ensures n h b lt (at h b _ (omega arith) s3) in
    let s5 = c.next_step-v-5.ensures n h b lt (at h b _ (omega arith) s4) in
    let s6 = c.next_step-v-6.ensures n h b lt (at h b _ (omega arith) s5) in
    let s7 = c.next_step-v-7.ensures n h b lt (at h b _ (omega arith) s6) in
    at h b _ (omega arith) (c.next_step.ensures n h b lt (at h b _ (omega arith) s7))

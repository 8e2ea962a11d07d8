use Rattle.std.proofs.Common.{arith}
use Rattle.sha_lanes.proofs.Steps.{at}
use Rattle.sha_lanes.proofs.one_block.eight_first_steps.Goals as goal

pub returns : goal.returns
returns c = λ h held.
    let s1 = c.first_step-v.ensures h held in
    let s2 = c.first_step-v-2.ensures h s1 in
    let s3 = c.first_step-v-3.ensures h (at h c.args.block.now _ (omega arith) s2) in
    let s4 = c.first_step-v-4.ensures h (at h c.args.block.now _ (omega arith) s3) in
    let s5 = c.first_step-v-5.ensures h (at h c.args.block.now _ (omega arith) s4) in
    let s6 = c.first_step-v-6.ensures h (at h c.args.block.now _ (omega arith) s5) in
    let s7 = c.first_step-v-7.ensures h (at h c.args.block.now _ (omega arith) s6) in
    at h c.args.block.now _ (omega arith) (c.first_step.ensures h (at h c.args.block.now _ (omega arith) s7))

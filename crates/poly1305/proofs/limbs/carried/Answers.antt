use Rattle.std.proofs.Common.{arith, slice_index}
use Rattle.poly1305.specs.Limbs.{limb}
use Rattle.poly1305.proofs.Products.{same, carries}
use Rattle.poly1305.proofs.limbs.carried.Goals as goal

pub returns-clause-value : goal.returns-clause-value
returns-clause-value c j lt below =
    let c3 = c.high.ensures j lt in
    let e4 = c.plus-e4.ensures j lt (omega arith) in
    let c0 = c.high-2.ensures j lt in
    let e1 = c.plus-e1.ensures j lt (omega arith) in
    let m0 = c.low.ensures j lt in
    let c4 = c.high-3.ensures j lt in
    let five = c.five_times.ensures j lt (omega arith) in
    let e0 = c.plus-e0.ensures j lt (omega arith) in
    let c1 = c.high-4.ensures j lt in
    let e2 = c.plus-e2.ensures j lt (omega arith) in
    let m3 = c.low-2.ensures j lt in
    let c2 = c.high-5.ensures j lt in
    let e3 = c.plus-e3.ensures j lt (omega arith) in
    let l1 = c.low-3.ensures j lt in
    let k0 = c.high-6.ensures j lt in
    let f1 = c.plus-f1.ensures j lt (omega arith) in
    let l4 = c.low-4.ensures j lt in
    let k3 = c.high-7.ensures j lt in
    let f4 = c.plus-f4.ensures j lt (omega arith) in
    let l0 = c.low-5.ensures j lt in
    let l2 = c.low-6.ensures j lt in
    let l3 = c.low-7.ensures j lt in
    same _ _ (slice_index c.high-3.result j)
    (carries (limb c.args.d 0 j) (limb c.args.d 1 j) (limb c.args.d 2 j) (limb c.args.d 3 j) (limb c.args.d 4 j)
    (slice_index c.plus-e0.result j) (slice_index c.plus-e1.result j) (slice_index c.plus-e2.result j) (slice_index c.plus-e3.result j) (slice_index c.plus-e4.result j)
    (slice_index c.plus-f1.result j) (slice_index c.plus-f4.result j)
    (slice_index c.low-5.result j) (slice_index c.low-3.result j) (slice_index c.low-6.result j) (slice_index c.low-7.result j) (slice_index c.low-4.result j)
    (slice_index c.high-2.result j) (slice_index c.high-4.result j) (slice_index c.high-5.result j) (slice_index c.high.result j) (slice_index c.high-3.result j)
    (slice_index c.high-6.result j) (slice_index c.high-7.result j)
    (slice_index c.low.result j) (slice_index c.low-2.result j)
    (omega arith) e4 (omega arith) e1 (omega arith) (omega arith) (omega arith) e2 (omega arith) e3 (omega arith) f1 (omega arith) f4)

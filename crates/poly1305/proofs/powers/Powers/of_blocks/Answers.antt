use Rattle.std.proofs.Common.{ℕ, ◌^◌, ◌<◌, arith}
use Rattle.poly1305.specs.Limbs.{AreBelow}
use Rattle.poly1305.proofs.PowersOfR.{lanes_below, one_to_four}
use Rattle.poly1305.proofs.powers.Powers.of_blocks.Goals as goal

pub returns-clause-below : goal.returns-clause-below
returns-clause-below c j lt =
    let p : (j : ℕ) → j < 4 → AreBelow (2 ^ 27) c.array.result j = λ j lt. rw c.array.ensures (c.args.self.now.powers.last_below j lt) in
    let p0 = p 0 (omega arith) in
    let p1 = p 1 (omega arith) in
    let p2 = p 2 (omega arith) in
    let p3 = p 3 (omega arith) in
    one_to_four c.args.n c.requires.0 c.requires.1
    (λ e. lanes_below (2 ^ 27) c.last_lanes.result c.last_lanes-2.result c.last_lanes-3.result c.last_lanes-4.result c.last_lanes-5.result
    (c.last_lanes.ensures.one e) (c.last_lanes-2.ensures.one e) (c.last_lanes-3.ensures.one e) (c.last_lanes-4.ensures.one e) (c.last_lanes-5.ensures.one e)
    (record { b0 = p3.b0; b1 = p3.b1; b2 = p3.b2; b3 = p3.b3; b4 = p3.b4 })
    (record { b0 = omega arith; b1 = omega arith; b2 = omega arith; b3 = omega arith; b4 = omega arith })
    (record { b0 = omega arith; b1 = omega arith; b2 = omega arith; b3 = omega arith; b4 = omega arith })
    (record { b0 = omega arith; b1 = omega arith; b2 = omega arith; b3 = omega arith; b4 = omega arith }) j lt)
    (λ e. lanes_below (2 ^ 27) c.last_lanes.result c.last_lanes-2.result c.last_lanes-3.result c.last_lanes-4.result c.last_lanes-5.result
    (c.last_lanes.ensures.two e) (c.last_lanes-2.ensures.two e) (c.last_lanes-3.ensures.two e) (c.last_lanes-4.ensures.two e) (c.last_lanes-5.ensures.two e)
    (record { b0 = p2.b0; b1 = p2.b1; b2 = p2.b2; b3 = p2.b3; b4 = p2.b4 })
    (record { b0 = p3.b0; b1 = p3.b1; b2 = p3.b2; b3 = p3.b3; b4 = p3.b4 })
    (record { b0 = omega arith; b1 = omega arith; b2 = omega arith; b3 = omega arith; b4 = omega arith })
    (record { b0 = omega arith; b1 = omega arith; b2 = omega arith; b3 = omega arith; b4 = omega arith }) j lt)
    (λ e. lanes_below (2 ^ 27) c.last_lanes.result c.last_lanes-2.result c.last_lanes-3.result c.last_lanes-4.result c.last_lanes-5.result
    (c.last_lanes.ensures.three e) (c.last_lanes-2.ensures.three e) (c.last_lanes-3.ensures.three e) (c.last_lanes-4.ensures.three e) (c.last_lanes-5.ensures.three e)
    (record { b0 = p1.b0; b1 = p1.b1; b2 = p1.b2; b3 = p1.b3; b4 = p1.b4 })
    (record { b0 = p2.b0; b1 = p2.b1; b2 = p2.b2; b3 = p2.b3; b4 = p2.b4 })
    (record { b0 = p3.b0; b1 = p3.b1; b2 = p3.b2; b3 = p3.b3; b4 = p3.b4 })
    (record { b0 = omega arith; b1 = omega arith; b2 = omega arith; b3 = omega arith; b4 = omega arith }) j lt)
    (λ e. lanes_below (2 ^ 27) c.last_lanes.result c.last_lanes-2.result c.last_lanes-3.result c.last_lanes-4.result c.last_lanes-5.result
    (c.last_lanes.ensures.four e) (c.last_lanes-2.ensures.four e) (c.last_lanes-3.ensures.four e) (c.last_lanes-4.ensures.four e) (c.last_lanes-5.ensures.four e)
    (record { b0 = p0.b0; b1 = p0.b1; b2 = p0.b2; b3 = p0.b3; b4 = p0.b4 })
    (record { b0 = p1.b0; b1 = p1.b1; b2 = p1.b2; b3 = p1.b3; b4 = p1.b4 })
    (record { b0 = p2.b0; b1 = p2.b1; b2 = p2.b2; b3 = p2.b3; b4 = p2.b4 })
    (record { b0 = p3.b0; b1 = p3.b1; b2 = p3.b2; b3 = p3.b3; b4 = p3.b4 }) j lt)

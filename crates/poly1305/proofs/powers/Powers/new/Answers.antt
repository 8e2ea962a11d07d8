use Rattle.std.proofs.Common.{◌≡◌, ℕ, ◌^◌, ◌<◌, arith, refl, bit_and}
use Rattle.std_defs.specs.Poly1305.{clamped}
use Rattle.poly1305.specs.Limbs.{value_in, AreBelow}
use Rattle.poly1305.proofs.PowersOfR.{powers_of, wider}
use Rattle.poly1305.proofs.powers.Powers.new.Goals as goal

pub invariant_of-result : goal.invariant_of-result
invariant_of-result c =
    let r = bit_and c.args.r 0x0ffffffc0ffffffc0ffffffc0fffffff in
    let f = c.everywhere-first.result in
    let s = c.multiplied-second.result in
    let t = c.multiplied-third.result in
    let q = c.multiplied-fourth.result in
    let below_f : (j : ℕ) → j < 4 → AreBelow (2 ^ 27) f j = λ j lt.
    (let e0 = c.everywhere-first.ensures j 0 lt in
    let e1 = c.everywhere-first.ensures j 1 lt in
    let e2 = c.everywhere-first.ensures j 2 lt in
    let e3 = c.everywhere-first.ensures j 3 lt in
    let e4 = c.everywhere-first.ensures j 4 lt in
    let b0 = c.limbs_of.ensures.below 0 in
    let b1 = c.limbs_of.ensures.below 1 in
    let b2 = c.limbs_of.ensures.below 2 in
    let b3 = c.limbs_of.ensures.below 3 in
    let b4 = c.limbs_of.ensures.below 4 in
    record { b0 = omega arith; b1 = omega arith; b2 = omega arith; b3 = omega arith; b4 = omega arith }) in
    let is_f : (j : ℕ) → j < 4 → value_in f j ≡ r = λ j lt.
    (let e0 = c.everywhere-first.ensures j 0 lt in
    let e1 = c.everywhere-first.ensures j 1 lt in
    let e2 = c.everywhere-first.ensures j 2 lt in
    let e3 = c.everywhere-first.ensures j 3 lt in
    let e4 = c.everywhere-first.ensures j 4 lt in
    let v = c.limbs_of.ensures.value in
    omega arith) in
    let wide : (x : _) (j : ℕ) → AreBelow (2 ^ 27) x j → AreBelow (2 ^ 28) x j = λ x j. wider (2 ^ 27) (2 ^ 28) x j (omega arith) in
    let below_s : (j : ℕ) → j < 4 → AreBelow (2 ^ 27) s j = λ j lt. c.multiplied-second.ensures.below j lt (wide f j (below_f j lt)) (below_f j lt) in
    let below_t : (j : ℕ) → j < 4 → AreBelow (2 ^ 27) t j = λ j lt. c.multiplied-third.ensures.below j lt (wide s j (below_s j lt)) (below_f j lt) in
    let below_q : (j : ℕ) → j < 4 → AreBelow (2 ^ 27) q j = λ j lt. c.multiplied-fourth.ensures.below j lt (wide s j (below_s j lt)) (below_s j lt) in
    record {
      powers = rw (← c.kept.ensures, ← c.kept-2.ensures)
          (powers_of r f s t q c.in_lanes.result below_f is_f
          below_s (λ j lt. c.multiplied-second.ensures.product j lt (wide f j (below_f j lt)) (below_f j lt))
          below_t (λ j lt. c.multiplied-third.ensures.product j lt (wide s j (below_s j lt)) (below_f j lt))
          below_q (λ j lt. c.multiplied-fourth.ensures.product j lt (wide s j (below_s j lt)) (below_s j lt))
          c.in_lanes.ensures.lane0 c.in_lanes.ensures.lane1 c.in_lanes.ensures.lane2 c.in_lanes.ensures.lane3);
    }

pub returns : goal.returns
unfolding clamped
returns c = refl

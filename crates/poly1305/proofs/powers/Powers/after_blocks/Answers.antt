use Rattle.std.proofs.Common.{◌≡◌, ◌∙◌, ℕ, ◌+◌, ◌*◌, ◌%◌, ◌<◌, ap, arith, refl, sym, take, drop}
use Rattle.std_defs.specs.Poly1305.{prime, accumulated}
use Rattle.poly1305.specs.Limbs.{value_in, value_of, fronted, HasRow}
use Rattle.poly1305.proofs.Horner.{Same, four_same, lanes_added, one_accumulated, two_accumulated, three_accumulated, four_accumulated, four_more}
use Rattle.poly1305.proofs.PowersOfR.{one_to_four, first_lane_below}
use Rattle.poly1305.proofs.powers.Powers.after_blocks.Goals as goal

pub sum_of_lanes-requires : goal.sum_of_lanes-requires
sum_of_lanes-requires c j lt =
    c.carried.ensures.below j lt (c.next_group-next.ensures.below j lt
    (first_lane_below c.in_first_lane.result c.args.value c.in_first_lane.ensures.first c.in_first_lane.ensures.zeros c.requires.below j lt)
    (c.of_blocks.ensures.below j lt))

pub returns-clause-value : goal.returns-clause-value
unfolding accumulated
returns-clause-value c =
    let r : ℕ = c.args.self.now.r in
    let v : ℕ = value_of c.args.value in
    let n : ℕ = c.args.n in
    let f : ℕ → ℕ = λ i. fronted c.args.front (take 16 (drop (16 * i) c.args.bytes.now)) in
    let h = c.in_first_lane.result in
    let w = c.next_group-next.result in
    let x = c.carried.result in
    let p = c.of_blocks.result in
    let first = c.in_first_lane.ensures.first in
    let zeros = c.in_first_lane.ensures.zeros in
    let is_first : value_in h 0 ≡ v = rw (first 0, first 1, first 2, first 3, first 4) refl in
    let is_zero : (j : ℕ) → 0 < j → value_in h j ≡ 0 = λ j lt. rw (zeros j 0 lt, zeros j 1 lt, zeros j 2 lt, zeros j 3 lt, zeros j 4 lt) refl in
    let below = first_lane_below h c.args.value first zeros c.requires.below in
    let at : (j : ℕ) → j < 4 → Same (value_in w j) ((value_in h j + fronted c.args.front (take 16 (drop (0 + 16 * j) c.args.bytes.now))) * value_in p j) =
    λ j lt. c.next_group-next.ensures.value j lt (below j lt) (c.of_blocks.ensures.below j lt) in
    let y : (j : ℕ) → j < 4 → Same (value_in x j) (value_in w j) = λ j lt.
    c.carried.ensures.value j lt (c.next_group-next.ensures.below j lt (below j lt) (c.of_blocks.ensures.below j lt)) in
    let w0 : Same (value_in w 0) ((v + f 0) * value_in p 0) = at 0 (omega arith) ∙ ap (λ n. (n + f 0) * value_in p 0 % prime) is_first in
    let w1 : Same (value_in w 1) ((0 + f 1) * value_in p 1) = at 1 (omega arith) ∙ ap (λ n. (n + f 1) * value_in p 1 % prime) (is_zero 1 (omega arith)) in
    let w2 : Same (value_in w 2) ((0 + f 2) * value_in p 2) = at 2 (omega arith) ∙ ap (λ n. (n + f 2) * value_in p 2 % prime) (is_zero 2 (omega arith)) in
    let w3 : Same (value_in w 3) ((0 + f 3) * value_in p 3) = at 3 (omega arith) ∙ ap (λ n. (n + f 3) * value_in p 3 % prime) (is_zero 3 (omega arith)) in
    let added : (q0 q1 q2 q3 : ℕ) → HasRow p q0 q1 q2 q3 → Same (value_of c.sum_of_lanes.result) ((v + f 0) * q0 + (0 + f 1) * q1 + (0 + f 2) * q2 + (0 + f 3) * q3) =
    λ q0 q1 q2 q3 row. ap (λ n. n % prime) c.sum_of_lanes.ensures.value
    ∙ four_same (value_in x 0) (value_in x 1) (value_in x 2) (value_in x 3) (value_in w 0) (value_in w 1) (value_in w 2) (value_in w 3)
    (y 0 (omega arith)) (y 1 (omega arith)) (y 2 (omega arith)) (y 3 (omega arith))
    ∙ lanes_added v 0 0 0 (f 0) (f 1) (f 2) (f 3) (value_in p 0) (value_in p 1) (value_in p 2) (value_in p 3) q0 q1 q2 q3
    (value_in w 0) (value_in w 1) (value_in w 2) (value_in w 3) w0 w1 w2 w3 row.lane0 row.lane1 row.lane2 row.lane3 in
    let e1 : (v + f 0) * r + (0 + f 1) * 0 + (0 + f 2) * 0 + (0 + f 3) * 0 ≡ (v + f 0) * r = omega arith in
    let e2 : (v + f 0) * (r * r) + (0 + f 1) * r + (0 + f 2) * 0 + (0 + f 3) * 0 ≡ ((v + f 0) * r + f 1) * r = omega arith in
    let e3 : (v + f 0) * (r * r * r) + (0 + f 1) * (r * r) + (0 + f 2) * r + (0 + f 3) * 0 ≡ (((v + f 0) * r + f 1) * r + f 2) * r = omega arith in
    let e4 : (v + f 0) * (r * r * r * r) + (0 + f 1) * (r * r * r) + (0 + f 2) * (r * r) + (0 + f 3) * r ≡ four_more r v (f 0) (f 1) (f 2) (f 3) = omega arith in
    let a4 : accumulated r f v 4 ≡ four_more r v (f 0) (f 1) (f 2) (f 3) % prime = four_accumulated r f v 0 in
    let s4 : Same (four_more r v (f 0) (f 1) (f 2) (f 3)) (accumulated r f v 4) = omega arith in
    one_to_four n c.requires.some.0 c.requires.some.1
    (λ e. added r 0 0 0 (c.of_blocks.ensures.one e) ∙ ap (λ n. n % prime) e1 ∙ sym (one_accumulated r f v 0) ∙ ap (λ n. accumulated r f v n % prime) (sym e))
    (λ e. added (r * r) r 0 0 (c.of_blocks.ensures.two e) ∙ ap (λ n. n % prime) e2 ∙ sym (two_accumulated r f v 0) ∙ ap (λ n. accumulated r f v n % prime) (sym e))
    (λ e. added (r * r * r) (r * r) r 0 (c.of_blocks.ensures.three e) ∙ ap (λ n. n % prime) e3 ∙ sym (three_accumulated r f v 0) ∙ ap (λ n. accumulated r f v n % prime) (sym e))
    (λ e. added (r * r * r * r) (r * r * r) (r * r) r (c.of_blocks.ensures.four e) ∙ ap (λ n. n % prime) e4 ∙ s4 ∙ ap (λ n. accumulated r f v n % prime) (sym e))

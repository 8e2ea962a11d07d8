use Rattle.std.proofs.Common.{◌≡◌, ◌∙◌, ℕ, ◌+◌, ◌-◌, ◌*◌, ◌/◌, ◌%◌, ◌^◌, ◌<◌, ap, arith, refl, sym, take, drop, length}
use Rattle.std_defs.specs.Poly1305.{prime, accumulated, message_block}
use Rattle.poly1305.specs.Limbs.{value_in, value_of, fronted, AreBelow}
use Rattle.poly1305.proofs.Horner.{Same, four_same, over_lanes}
use Rattle.poly1305.proofs.PowersOfR.{first_lane_below}
use Rattle.poly1305.proofs.Groups.{block_there, lane_step, next_held, last_held}
use Rattle.poly1305.proofs.powers.Powers.after_groups.Goals as goal

pub loop-g-init : goal.loop-g-init
unfolding accumulated
loop-g-init c =
    let r : ℕ = c.args.self.now.r in
    let v : ℕ = value_of c.args.value in
    let h = c.in_first_lane-h.result in
    let first = c.in_first_lane-h.ensures.first in
    let zeros = c.in_first_lane-h.ensures.zeros in
    let lane : (j : ℕ) → 0 < j → value_in h j ≡ 0 = λ j lt. rw (zeros j 0 lt, zeros j 1 lt, zeros j 2 lt, zeros j 3 lt, zeros j 4 lt) refl in
    let none : over_lanes r v 0 0 0 ≡ v * (r * r * r) = omega arith in
    record {
      below = first_lane_below h c.args.value first zeros c.requires.below;
      lanes = ap (λ n. n % prime)
          (rw (first 0, first 1, first 2, first 3, first 4, lane 1 (omega arith), lane 2 (omega arith), lane 3 (omega arith)) none);
    }

pub loop-g-preserved : goal.loop-g-preserved
loop-g-preserved c =
    let r : ℕ = c.args.self.now.r in
    let bytes = c.args.bytes.now in
    let g : ℕ = c.loop-g.g in
    let h = c.loop-g.h in
    let w = c.next_group-next.result in
    let p = c.args.self.now.powers in
    let power_below : (j : ℕ) → j < 4 → AreBelow (2 ^ 27) c.array.result j = λ j lt. rw c.array.ensures (p.each_below j lt) in
    let power : (j : ℕ) → j < 4 → Same (value_in c.array.result j) (r * r * r * r) = λ j lt. rw c.array.ensures (p.each_fourth j lt) in
    let at : (j n : ℕ) → j < 4 → n ≡ 4 * g + j → Same (value_in w j) ((value_in h j + message_block bytes n) * (r * r * r * r)) = λ j n lt e.
    lane_step (value_in w j) (value_in h j) (fronted (2 ^ 24) (take 16 (drop (64 * g + 16 * j) bytes))) (value_in c.array.result j) (r * r * r * r) (message_block bytes n)
    (c.next_group-next.ensures.value j lt (c.loop-g.invariant.below j lt) (power_below j lt)) (block_there bytes g j n e (omega arith)) (power j lt) in
    record {
      below = λ j lt. c.next_group-next.ensures.below j lt (c.loop-g.invariant.below j lt) (power_below j lt);
      lanes = next_held r (value_of c.args.value) bytes g (value_in h 0) (value_in h 1) (value_in h 2) (value_in h 3) (value_in w 0) (value_in w 1) (value_in w 2) (value_in w 3) c.loop-g.invariant.lanes
          (at 0 (4 * g) (omega arith) (omega arith)) (at 1 (4 * g + 1) (omega arith) (omega arith)) (at 2 (4 * g + 2) (omega arith) (omega arith)) (at 3 (4 * g + 3) (omega arith) (omega arith));
    }

pub sum_of_lanes-requires : goal.sum_of_lanes-requires
sum_of_lanes-requires c j lt =
    let power_below : AreBelow (2 ^ 27) c.array-2.result j = rw c.array-2.ensures (c.args.self.now.powers.last_below j lt) in
    c.carried.ensures.below j lt (c.next_group-next-2.ensures.below j lt (c.loop-g.invariant.below j lt) power_below)

pub returns-clause-value : goal.returns-clause-value
returns-clause-value c =
    let r : ℕ = c.args.self.now.r in
    let bytes = c.args.bytes.now in
    let g : ℕ = c.loop-g.g in
    let h = c.loop-g.h in
    let w = c.next_group-next-2.result in
    let x = c.carried.result in
    let p = c.args.self.now.powers in
    let last : length bytes / 64 - 1 ≡ g = omega arith in
    let count : length bytes / 16 ≡ 4 * g + 4 = omega arith in
    let power_below : (j : ℕ) → j < 4 → AreBelow (2 ^ 27) c.array-2.result j = λ j lt. rw c.array-2.ensures (p.last_below j lt) in
    let at : (j n q : ℕ) → j < 4 → n ≡ 4 * g + j → Same (value_in c.array-2.result j) q → Same (value_in w j) ((value_in h j + message_block bytes n) * q) = λ j n q lt e power.
    lane_step (value_in w j) (value_in h j) (fronted (2 ^ 24) (take 16 (drop (64 * (length bytes / 64 - 1) + 16 * j) bytes))) (value_in c.array-2.result j) q (message_block bytes n)
    (c.next_group-next-2.ensures.value j lt (c.loop-g.invariant.below j lt) (power_below j lt))
    (ap (λ k. fronted (2 ^ 24) (take 16 (drop (64 * k + 16 * j) bytes))) last ∙ block_there bytes g j n e (omega arith)) power in
    let y : (j : ℕ) → j < 4 → Same (value_in x j) (value_in w j) = λ j lt.
    c.carried.ensures.value j lt (c.next_group-next-2.ensures.below j lt (c.loop-g.invariant.below j lt) (power_below j lt)) in
    let all : Same (value_in x 0 + value_in x 1 + value_in x 2 + value_in x 3) (value_in w 0 + value_in w 1 + value_in w 2 + value_in w 3) =
    four_same (value_in x 0) (value_in x 1) (value_in x 2) (value_in x 3) (value_in w 0) (value_in w 1) (value_in w 2) (value_in w 3)
    (y 0 (omega arith)) (y 1 (omega arith)) (y 2 (omega arith)) (y 3 (omega arith)) in
    ap (λ n. n % prime) c.sum_of_lanes.ensures.value
    ∙ all ∙ last_held r (value_of c.args.value) bytes g (value_in h 0) (value_in h 1) (value_in h 2) (value_in h 3) (value_in w 0) (value_in w 1) (value_in w 2) (value_in w 3) c.loop-g.invariant.lanes
    (at 0 (4 * g) (r * r * r * r) (omega arith) (omega arith) (rw c.array-2.ensures p.last_row.lane0)) (at 1 (4 * g + 1) (r * r * r) (omega arith) (omega arith) (rw c.array-2.ensures p.last_row.lane1))
    (at 2 (4 * g + 2) (r * r) (omega arith) (omega arith) (rw c.array-2.ensures p.last_row.lane2)) (at 3 (4 * g + 3) r (omega arith) (omega arith) (rw c.array-2.ensures p.last_row.lane3))
    ∙ ap (λ n. accumulated r (message_block bytes) (value_of c.args.value) n % prime) (sym count)

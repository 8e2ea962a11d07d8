use Rattle.std.proofs.Common.{ℕ, ◌∙◌}
use Rattle.instructions.proofs.Turns.{turn_set, turn_clear, turned_on}
use Rattle.instructions.proofs.carryless.product_of.Goals.{then-y-i-eq1, else-y-i-eq1}
use Rattle.instructions.proofs.carryless.product_of.Goals as goal

pub loop-i-preserved : goal.loop-i-preserved
loop-i-preserved c =
    let x : ℕ = c.args.x in
    let y : ℕ = c.args.y in
    let i : ℕ = c.loop-i.i in
    record {
      product_so_far = elim c.if-y-i-eq1.branch [
        | then-y-i-eq1 w ↦ w.z-is ∙ turn_set x y i c.loop-i.z c.loop-i.v c.loop-i-test.true c.ranges.x.fits c.loop-i.invariant.product_so_far c.loop-i.invariant.shifted w.if-y-i-eq1.true
        | else-y-i-eq1 w ↦ w.z-is ∙ turn_clear x y i c.loop-i.z c.loop-i.invariant.product_so_far w.if-y-i-eq1.false
      ];
      shifted = turned_on x i c.loop-i.v c.loop-i-test.true c.ranges.x.fits c.loop-i.invariant.shifted;
    }

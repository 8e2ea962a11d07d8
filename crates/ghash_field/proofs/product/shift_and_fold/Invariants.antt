use Rattle.std.proofs.Common.{◌≡◌}
use Rattle.std_defs.specs.GhashField.{polynomial_of}
use Rattle.std_defs.proofs.Multiples.{multiple, times_power}
use Rattle.ghash_field.proofs.product.shift_and_fold.Given as goal

abbrev pub invariant-loop-i : goal.invariant-loop-i
invariant-loop-i l = record {
  product_so_far : l.z ≡ multiple l.i (polynomial_of l.x) l.y;
  shifted : l.v ≡ times_power l.i l.y;
}

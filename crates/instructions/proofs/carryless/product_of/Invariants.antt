use Rattle.std.proofs.Common.{◌≡◌, ◌*◌, ◌^◌, ◌%◌}
use Rattle.std_defs.specs.Aes.{product}
use Rattle.instructions.proofs.carryless.product_of.Given as goal

abbrev pub invariant-loop-i : goal.invariant-loop-i
invariant-loop-i l = record {
  product_so_far : l.z ≡ product l.x l.y l.i;
  shifted : l.v ≡ (l.x * 2 ^ l.i) % 2 ^ 128;
}

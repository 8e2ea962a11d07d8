use Rattle.std.proofs.Common.{ℕ, ◌*◌, ◌^◌, ◌<◌}
use Rattle.std_defs.specs.Poly1305.{accumulated, message_block}
use Rattle.poly1305.specs.Limbs.{value_in, value_of, AreBelow}
use Rattle.poly1305.proofs.Horner.{Same, over_lanes}
use Rattle.poly1305.proofs.powers.Powers.after_groups.Given as goal

abbrev pub invariant-loop-g : goal.invariant-loop-g
invariant-loop-g l = record {
  below : (j : ℕ) → j < 4 → AreBelow (2 ^ 61) l.h j;
  lanes : Same (over_lanes l.self.r (value_in l.h 0) (value_in l.h 1) (value_in l.h 2) (value_in l.h 3))
      (accumulated l.self.r (message_block l.bytes) (value_of l.fn.value) (4 * l.g) * (l.self.r * l.self.r * l.self.r));
}

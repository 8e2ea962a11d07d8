use Rattle.std.proofs.Common.{◌≡◌, ℕ, ◌≤◌, ◌+◌, ◌-◌, get_or}
use Rattle.ghash_field.specs.ByteRows.{spread, column, whole}
use Rattle.ghash_field.proofs.lane_ghash.product_by.Given as goal

abbrev pub invariant-loop-k : goal.invariant-loop-k
invariant-loop-k l = record {
  value : whole l.low l.high ≡ spread l.k (λ s. column l.rows.h (16 - l.k + s) l.x.bytes);
  start : l.k ≡ 0 → get_or l.low 15 0 ≡ 0;
  none : (j : ℕ) → l.k ≤ j + 1 → get_or l.high j 0 ≡ 0;
}

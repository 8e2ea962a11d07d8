use Rattle.std.proofs.Common.{◌≡◌, ℕ, ◌≤◌, ◌+◌, ◌-◌, get_or}
use Rattle.ghash_field.specs.ByteRows.{spread, column, whole, sum_of_eight}
use Rattle.ghash_field.proofs.lane_ghash.LaneGhash.sum_of_products.Given as goal

abbrev pub invariant-loop-k : goal.invariant-loop-k
invariant-loop-k l = record {
  value : whole l.low l.high ≡ spread l.k (λ s. sum_of_eight
      (column l.self.eighth.h (16 - l.k + s) l.x.first.bytes) (column l.self.seventh.h (16 - l.k + s) l.x.second.bytes) (column l.self.sixth.h (16 - l.k + s) l.x.third.bytes) (column l.self.fifth.h (16 - l.k + s) l.x.fourth.bytes)
      (column l.self.fourth.h (16 - l.k + s) l.x.fifth.bytes) (column l.self.third.h (16 - l.k + s) l.x.sixth.bytes) (column l.self.second.h (16 - l.k + s) l.x.seventh.bytes) (column l.self.first.h (16 - l.k + s) l.x.eighth.bytes));
  start : l.k ≡ 0 → get_or l.low 15 0 ≡ 0;
  none : (j : ℕ) → l.k ≤ j + 1 → get_or l.high j 0 ≡ 0;
}

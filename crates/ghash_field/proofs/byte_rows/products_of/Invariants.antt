use Rattle.std.proofs.Common.{◌≡◌, ℕ, ◌<◌, ◌++◌, length, get_or}
use Rattle.std_defs.specs.Blocks.{block_bytes}
use Rattle.ghash_field.specs.declared.byte_rows.Row.{Row}
use Rattle.ghash_field.proofs.byte_rows.products_of.Given as goal

abbrev pub invariant-loop-n : goal.invariant-loop-n
invariant-loop-n l = record {
  long : length l.rows ≡ 16;
  done : (n : ℕ) (d : Row) → n < l.n → (get_or l.rows n d).lanes ≡ block_bytes (get_or l.high n 0) ++ block_bytes (get_or l.low n 0);
}

use Rattle.std.proofs.Common.{◌≡◌, ℕ, ◌<◌, length, slice_index}
use Rattle.aes_table.specs.Words.{bytes_of, mixed_back}
use Rattle.aes_table.proofs.schedule.mixed_back_all.Given as goal

abbrev pub invariant-loop-n : goal.invariant-loop-n
invariant-loop-n l = record {
  long : length l.back ≡ 60;
  done : (k : ℕ) → k < l.n → bytes_of (slice_index l.back k) ≡ mixed_back (bytes_of (slice_index l.words k));
}

use Rattle.std.proofs.Common.{◌≡◌, ℕ, ◌<◌, length, [], slice_index, slice_index_or}
use Rattle.aes_table.specs.Words.{bytes_of}
use Rattle.aes_table.proofs.schedule.numbers_of.Given as goal

abbrev pub invariant-loop-n : goal.invariant-loop-n
invariant-loop-n l = record {
  long : length l.numbers ≡ 60;
  done : (k : ℕ) → k < l.n → bytes_of (slice_index l.numbers k) ≡ slice_index_or l.words k [];
}

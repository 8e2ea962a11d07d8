use Rattle.std.proofs.Common.{◌≡◌, ◌+◌, ◌<◌, ◌/◌, ℕ, length, slice_index}
use Rattle.in_step.specs.Pieces.{piece}
use Rattle.in_step.proofs.digests.counts_of.Given as goal

abbrev pub invariant-loop-n : goal.invariant-loop-n
invariant-loop-n l = record {
  long : length l.counts ≡ 8;
  done : (k : ℕ) → k < l.n → slice_index l.counts k ≡ (length (piece l.firsts k) + length (piece l.seconds k) + 72) / 64;
}

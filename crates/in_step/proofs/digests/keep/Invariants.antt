use Rattle.std.proofs.Common.{◌≡◌, ◌<◌, ◌≤◌, ℕ, [], length, slice_index, slice_index_or}
use Rattle.sha_lanes.specs.Lanes.{in_lane}
use Rattle.in_step.proofs.digests.keep.Given as goal

abbrev pub invariant-loop-n : goal.invariant-loop-n
invariant-loop-n l = record {
  long : length l.kept ≡ 8;
  taken : (k : ℕ) → k < l.n → l.from ≤ slice_index l.counts k → slice_index l.counts k ≤ l.to → slice_index_or l.kept k [] ≡ in_lane l.values k;
  below : (k : ℕ) → k < l.n → slice_index l.counts k < l.from → slice_index_or l.kept k [] ≡ slice_index_or l.fn.kept k [];
  left : (k : ℕ) → l.n ≤ k → slice_index_or l.kept k [] ≡ slice_index_or l.fn.kept k [];
}

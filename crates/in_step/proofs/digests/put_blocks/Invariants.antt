use Rattle.std.proofs.Common.{◌≡◌, ◌<◌, ℕ, length, slice_index}
use Rattle.sha_lanes.specs.Lanes.{block_at}
use Rattle.in_step.specs.Pieces.{behind, piece}
use Rattle.in_step.proofs.digests.put_blocks.Given as goal

abbrev pub invariant-loop-n : goal.invariant-loop-n
invariant-loop-n l = record {
  long : length l.blocks ≡ 512;
  done : (k : ℕ) → k < l.n → l.i < slice_index l.counts k → block_at l.blocks k ≡ block_at (behind l.taken (piece l.firsts k) (piece l.seconds k)) l.i;
}

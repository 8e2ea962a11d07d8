use Rattle.std.proofs.Common.{◌≡◌, ◌<◌, ◌≤◌, ℕ, [], slice_index, slice_index_or}
use Rattle.sha2.specs.Sha256.{hash_after}
use Rattle.sha_lanes.specs.Lanes.{in_lane}
use Rattle.in_step.specs.Pieces.{behind, piece}
use Rattle.in_step.proofs.digests.hash_in_step.Given as goal

abbrev pub invariant-loop-i : goal.invariant-loop-i
invariant-loop-i l = record {
  live : (n : ℕ) → n < 8 → l.i ≤ slice_index l.counts n → in_lane l.values n ≡ hash_after l.start (behind l.taken (piece l.firsts n) (piece l.seconds n)) l.i;
  done : (n : ℕ) → n < 8 → slice_index l.counts n ≤ l.i → slice_index_or l.kept n [] ≡ hash_after l.start (behind l.taken (piece l.firsts n) (piece l.seconds n)) (slice_index l.counts n);
}

use Rattle.std.proofs.Common.{◌≡◌, ◌+◌, ◌<◌, ◌/◌, ℕ, [], length, slice_index_or}
use Rattle.sha2.specs.Sha256.{digest_bytes, hash_after}
use Rattle.in_step.specs.Pieces.{behind, piece}
use Rattle.in_step.proofs.digests.digests_behind.Given as goal

abbrev pub invariant-loop-n : goal.invariant-loop-n
invariant-loop-n l = record {
  long : length l.digests ≡ 8;
  done : (k : ℕ) → k < l.n → slice_index_or l.digests k []
      ≡ digest_bytes (hash_after l.start (behind l.taken (piece l.firsts k) (piece l.seconds k)) ((length (piece l.firsts k) + length (piece l.seconds k) + 72) / 64)) 8;
}

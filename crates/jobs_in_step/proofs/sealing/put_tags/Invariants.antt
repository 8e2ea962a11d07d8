use Rattle.std.proofs.Common.{◌≡◌, ◌+◌, ◌-◌, ◌<◌, ◌≤◌, ◌++◌, ℕ, [], length, take, slice_index, slice_index_or}
use Rattle.jobs_in_step.specs.Lanes.{text_in}
use Rattle.jobs_in_step.proofs.sealing.put_tags.Given as goal

abbrev pub invariant-loop-n : goal.invariant-loop-n
invariant-loop-n l = record {
  long : length l.texts ≡ 8;
  put : (k : ℕ) → k < l.n → length (text_in l.fn.texts k) ≤ slice_index l.lengths k + 32
      → text_in l.texts k ≡ take (slice_index l.lengths k) (text_in l.fn.texts k) ++ take (length (text_in l.fn.texts k) - slice_index l.lengths k) (slice_index_or l.tags k []);
  left : (k : ℕ) → l.n ≤ k → text_in l.texts k ≡ text_in l.fn.texts k;
}

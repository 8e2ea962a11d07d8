use Rattle.std.proofs.Common.{◌≡◌, ◌+◌, ◌<◌, ◌≤◌, ◌++◌, ℕ, length, take, drop, slice_index}
use Rattle.in_step.specs.Texts.{text_in, front_in, block_in}
use Rattle.jobs_in_step.proofs.fronts.put_tags_at.Given as goal

abbrev pub invariant-loop-n : goal.invariant-loop-n
invariant-loop-n g l = record {
  count : length l.texts ≡ length l.fn.texts;
  put : (k : ℕ) → k < l.n → k < length l.fn.texts → text_in g.T.Text.bytes_of l.texts k
      ≡ front_in g.T.Text.bytes_of l.lengths l.fn.texts k ++ take l.tag_size (block_in l.tags k) ++ drop (slice_index l.lengths k + l.tag_size) (text_in g.T.Text.bytes_of l.fn.texts k);
  left : (k : ℕ) → l.n ≤ k → text_in g.T.Text.bytes_of l.texts k ≡ text_in g.T.Text.bytes_of l.fn.texts k;
  same : (k : ℕ) → length (text_in g.T.Text.bytes_of l.texts k) ≡ length (text_in g.T.Text.bytes_of l.fn.texts k);
}

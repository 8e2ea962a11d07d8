use Rattle.std.proofs.Common.{◌≡◌, ◌+◌, ◌*◌, ◌<◌, ◌≤◌, ◌/◌, ◌++◌, ℕ, [], length, take, drop, slice_index, slice_index_or}
use Rattle.in_step.specs.Texts.{text_in}
use Rattle.in_step.proofs.cbc.put_blocks.Given as goal

abbrev pub invariant-loop-n : goal.invariant-loop-n
invariant-loop-n g l = record {
  count : length l.texts ≡ length l.fn.texts;
  put : (k : ℕ) → k < l.n → l.i < slice_index l.lengths k / 16 → text_in g.T.Text.bytes_of l.texts k
      ≡ take (16 * l.i) (text_in g.T.Text.bytes_of l.fn.texts k) ++ slice_index_or l.chains k [] ++ drop (16 * l.i + 16) (text_in g.T.Text.bytes_of l.fn.texts k);
  kept : (k : ℕ) → k < l.n → slice_index l.lengths k / 16 ≤ l.i → text_in g.T.Text.bytes_of l.texts k ≡ text_in g.T.Text.bytes_of l.fn.texts k;
  left : (k : ℕ) → l.n ≤ k → text_in g.T.Text.bytes_of l.texts k ≡ text_in g.T.Text.bytes_of l.fn.texts k;
  same : (k : ℕ) → length (text_in g.T.Text.bytes_of l.texts k) ≡ length (text_in g.T.Text.bytes_of l.fn.texts k);
}

use Rattle.std.proofs.Common.{◌≡◌, ◌<◌, ◌≤◌, ◌/◌, ℕ, [], length, slice_index, slice_index_or}
use Rattle.std_defs.specs.Blocks.{text_block, xor_blocks}
use Rattle.in_step.specs.Texts.{text_in}
use Rattle.in_step.proofs.cbc.add_blocks.Given as goal

abbrev pub invariant-loop-n : goal.invariant-loop-n
invariant-loop-n g l = record {
  long : length l.chains ≡ 8;
  done : (k : ℕ) → k < l.n → l.i < slice_index l.lengths k / 16
      → slice_index_or l.chains k [] ≡ xor_blocks (text_block (text_in g.T.Text.bytes_of l.texts k) l.i) (slice_index_or l.fn.chains k []);
  left : (k : ℕ) → l.n ≤ k → slice_index_or l.chains k [] ≡ slice_index_or l.fn.chains k [];
}

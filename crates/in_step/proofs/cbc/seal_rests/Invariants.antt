use Rattle.std.proofs.Common.{◌≡◌, ◌≤◌, ◌<◌, ◌/◌, ℕ, List, [], min, length, slice_index, slice_index_or}
use Rattle.std_defs.specs.Modes.{cbc_block}
use Rattle.in_step.specs.Texts.{text_in, Sealed}
use Rattle.in_step.proofs.cbc.seal_rests.Given as goal

abbrev pub invariant-loop-n : goal.invariant-loop-n
invariant-loop-n g l = record {
  sealed : (k : ℕ) (iv orig : List ℕ) → k < l.n
      → Sealed (g.C.BlockCipher.sealed l.cipher) iv orig (text_in g.T.Text.bytes_of l.fn.texts k) (min l.steps (slice_index l.lengths k / 16))
      → (l.steps ≤ slice_index l.lengths k / 16 → slice_index_or l.chains k [] ≡ cbc_block (g.C.BlockCipher.sealed l.cipher) iv orig l.steps)
      → Sealed (g.C.BlockCipher.sealed l.cipher) iv orig (text_in g.T.Text.bytes_of l.texts k) (slice_index l.lengths k / 16);
  left : (k : ℕ) → l.n ≤ k → text_in g.T.Text.bytes_of l.texts k ≡ text_in g.T.Text.bytes_of l.fn.texts k;
  count : length l.texts ≡ length l.fn.texts;
}

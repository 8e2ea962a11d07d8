use Rattle.std.proofs.Common.{◌≡◌, ◌<◌, ◌≤◌, ◌/◌, ℕ, [], min, length, slice_index, slice_index_or}
use Rattle.std_defs.specs.Modes.{cbc_block}
use Rattle.in_step.specs.Texts.{text_in, Sealed}
use Rattle.in_step.proofs.cbc.seal_steps.Given as goal

abbrev pub invariant-loop-i : goal.invariant-loop-i
invariant-loop-i g l = record {
  texts : (n : ℕ) → n < 8 → Sealed (g.C.BlockCipher.sealed l.cipher) (slice_index_or l.ivs n []) (text_in g.T.Text.bytes_of l.fn.texts n)
      (text_in g.T.Text.bytes_of l.texts n) (min l.i (slice_index l.lengths n / 16));
  chains : (n : ℕ) → n < 8 → l.i ≤ slice_index l.lengths n / 16
      → slice_index_or l.chains n [] ≡ cbc_block (g.C.BlockCipher.sealed l.cipher) (slice_index_or l.ivs n []) (text_in g.T.Text.bytes_of l.fn.texts n) l.i;
  count : length l.texts ≡ length l.fn.texts;
}

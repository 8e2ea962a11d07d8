use Rattle.std.proofs.Common.{◌≡◌, ◌≢◌, ◌≤◌, ◌/◌, ℕ, List, min, length}
use Rattle.std_defs.specs.Modes.{cbc_block}
use Rattle.in_step.specs.Texts.{text_in, Sealed}
use Rattle.in_step.proofs.cbc.seal_rest.Given as goal

abbrev pub invariant-loop-i : goal.invariant-loop-i
invariant-loop-i g l = record {
  sealed : (iv orig : List ℕ) → Sealed (g.C.BlockCipher.sealed l.cipher) iv orig (text_in g.T.Text.bytes_of l.fn.texts l.n) (min l.steps (l.len / 16))
      → (l.steps ≤ l.len / 16 → l.fn.chain ≡ cbc_block (g.C.BlockCipher.sealed l.cipher) iv orig l.steps)
      → Sealed (g.C.BlockCipher.sealed l.cipher) iv orig (text_in g.T.Text.bytes_of l.texts l.n) (min l.i (l.len / 16));
  chain : (iv orig : List ℕ) → Sealed (g.C.BlockCipher.sealed l.cipher) iv orig (text_in g.T.Text.bytes_of l.fn.texts l.n) (min l.steps (l.len / 16))
      → (l.steps ≤ l.len / 16 → l.fn.chain ≡ cbc_block (g.C.BlockCipher.sealed l.cipher) iv orig l.steps)
      → l.i ≤ l.len / 16 → l.chain ≡ cbc_block (g.C.BlockCipher.sealed l.cipher) iv orig l.i;
  others : (k : ℕ) → k ≢ l.n → text_in g.T.Text.bytes_of l.texts k ≡ text_in g.T.Text.bytes_of l.fn.texts k;
  same : length (text_in g.T.Text.bytes_of l.texts l.n) ≡ length (text_in g.T.Text.bytes_of l.fn.texts l.n);
  count : length l.texts ≡ length l.fn.texts;
}

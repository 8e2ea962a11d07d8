use Rattle.std.proofs.Common.{◌≡◌, ℕ, ◌+◌, ◌*◌, ◌<◌, ◌≤◌, length, slice_index, bit_xor}
use Rattle.std_defs.specs.ChaCha20.{stream_byte}
use Rattle.chacha_lanes.proofs.cipher.apply_from.Given as goal

abbrev pub invariant-loop-g : goal.invariant-loop-g
invariant-loop-g l = record {
  long : length l.text ≡ length l.fn.text;
  before : (i : ℕ) → i < l.at → slice_index l.text i ≡ slice_index l.fn.text i;
  done : (k : ℕ) → k < 512 * l.g → slice_index l.text (l.at + k) ≡ bit_xor (slice_index l.fn.text (l.at + k)) (stream_byte l.key l.nonce l.counter k);
  left : (i : ℕ) → l.at + 512 * l.g ≤ i → slice_index l.text i ≡ slice_index l.fn.text i;
}

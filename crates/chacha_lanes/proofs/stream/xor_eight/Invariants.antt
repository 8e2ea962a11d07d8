use Rattle.std.proofs.Common.{◌≡◌, ℕ, ◌*◌, ◌<◌, ◌≤◌, length, slice_index, bit_xor}
use Rattle.std_defs.specs.ChaCha20.{stream_byte}
use Rattle.chacha_lanes.proofs.stream.xor_eight.Given as goal

abbrev pub invariant-loop-n : goal.invariant-loop-n
invariant-loop-n l = record {
  long : length l.text ≡ 512;
  done : (i : ℕ) → i < 64 * l.n → slice_index l.text i ≡ bit_xor (slice_index l.fn.text i) (stream_byte l.key l.nonce l.counter i);
  left : (i : ℕ) → 64 * l.n ≤ i → slice_index l.text i ≡ slice_index l.fn.text i;
}

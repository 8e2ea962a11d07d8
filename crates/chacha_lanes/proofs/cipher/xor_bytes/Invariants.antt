use Rattle.std.proofs.Common.{get_or, bit_xor, ◌≡◌, ℕ, ◌<◌, ◌≤◌}
use Rattle.chacha_lanes.proofs.cipher.xor_bytes.Given as goal

abbrev pub invariant-loop-k : goal.invariant-loop-k
invariant-loop-k l = record {
  done : (j : ℕ) → j < l.k → get_or l.text j 0 ≡ bit_xor (get_or l.fn.text j 0) (get_or l.bytes j 0);
  to_do : (j : ℕ) → l.k ≤ j → get_or l.text j 0 ≡ get_or l.fn.text j 0;
}

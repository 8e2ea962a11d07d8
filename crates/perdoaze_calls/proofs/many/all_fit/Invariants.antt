use Rattle.std.proofs.Common.{◌<◌, ℕ, length}
use Rattle.perdoaze_calls.specs.Many.{FitsInStep, iv_in, aad_in, len_in, bytes_in}
use Rattle.perdoaze_calls.proofs.many.all_fit.Given as goal

abbrev pub invariant-loop-i : goal.invariant-loop-i
invariant-loop-i l = (k : ℕ) → k < l.i → FitsInStep l.key l.tag_size (iv_in l.asked k) (aad_in l.asked k) (len_in l.asked k) (length (bytes_in l.buffers k))

use Rattle.std.proofs.Common.{get_or, bit_xor}
use Rattle.aes_block.proofs.Writing.{Written}
use Rattle.ctr_mode.proofs.key_stream.xor_bytes.Given as goal

abbrev pub invariant-loop-k : goal.invariant-loop-k
invariant-loop-k l = Written (λ k. bit_xor (get_or l.fn.text k 0) (get_or l.bytes k 0)) l.fn.text l.text l.k

use Rattle.std.proofs.Common.{slice_index, slice_index_or, ◌*◌, ◌/◌, ◌%◌, []}
use Rattle.ctr_mode.proofs.Pieces.{Xored}
use Rattle.ctr_mode.proofs.key_stream.xor_some.Given as goal

abbrev pub invariant-loop-j : goal.invariant-loop-j
invariant-loop-j l = Xored (λ k. slice_index (slice_index_or l.blocks (k / 16) []) (k % 16)) l.fn.text l.text (16 * l.j)

use Rattle.std.proofs.Common.{◌≡◌, ◌+◌, ◌%◌, ◌^◌, ◌<◌, ◌≤◌, ℕ, length, slice_index}
use Rattle.in_step.specs.Pieces.{piece}
use Rattle.in_step.specs.Texts.{text_in}
use Rattle.in_step.proofs.packets.fit_in_step.Given as goal

abbrev pub invariant-loop-n : goal.invariant-loop-n
invariant-loop-n g l =
    (k : ℕ) → k < l.n
    → (slice_index l.lengths k % 16 ≡ 0) × (slice_index l.lengths k ≤ length (text_in g.T.Text.bytes_of l.texts k)) × (length (piece l.aads k) + slice_index l.lengths k < 2 ^ 63)
